pub mod Bytes
pub mod Gaps
pub mod Laws
pub mod Next
pub mod Scans
pub mod Tokens
