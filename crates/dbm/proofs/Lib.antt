pub mod Rows
pub mod Laws
pub mod Line
pub mod Pivot
pub mod Tight
pub mod Turns
pub mod Places
