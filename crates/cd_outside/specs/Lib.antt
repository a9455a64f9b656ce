pub mod Folder
pub mod Outside
pub mod Page
pub mod Sent
pub mod Shelf
