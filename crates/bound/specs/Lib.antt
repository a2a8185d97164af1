pub mod Time
pub mod Kinds
pub mod DenseLaws
pub mod Integers
pub mod Scales
pub mod TickLaws
pub mod Lifted
