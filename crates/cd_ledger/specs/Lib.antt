pub mod Records
pub mod Statuses
