pub mod Grammar
pub mod Program
pub mod Numbers
pub mod Options
pub mod Chosen
pub mod Grid
