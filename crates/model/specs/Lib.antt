pub mod States
pub mod Steps
pub mod Records
pub mod Views
pub mod Passing
pub mod Files
