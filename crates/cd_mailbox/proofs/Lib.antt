pub mod Parts
pub mod Steps
pub mod Seats
pub mod Dealing
pub mod Joining
pub mod Said
