pub mod Runs
mod Acts
mod Says
mod Journals
mod Names
