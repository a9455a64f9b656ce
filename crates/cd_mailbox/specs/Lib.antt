pub mod Views
pub mod Rule
pub mod Known
pub mod Life
pub mod Opening
pub mod Closing
pub mod Laws
