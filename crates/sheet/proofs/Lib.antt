pub mod Safety
pub mod Counting
pub mod Ordering
pub mod Nexts
pub mod Deciding
pub mod Tracking
pub mod Promising
pub mod Replaying
