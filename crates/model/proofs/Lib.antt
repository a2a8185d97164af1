pub mod Answered
pub mod Giving
pub mod Kept
pub mod Resetting
