pub mod JoinedSeats
pub mod Seats
pub mod Steps
