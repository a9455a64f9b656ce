pub mod Listing
pub mod PathLemmas
pub mod BoundLemmas
pub mod Giving
pub mod WalkLemmas
pub mod PairLemmas
pub mod InstanceLemmas
pub mod PathOrder
pub mod Usable
pub mod MarkLemmas
pub mod Apart
pub mod RunLemmas
pub mod Choosing
pub mod Existing
mod ClashLemmas
