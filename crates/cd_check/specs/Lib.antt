pub mod Accepted
pub mod Verdicts
pub mod Lines
pub mod Bodies
pub mod Inputs
pub mod Judged
pub mod Conditions
