pub mod Solving
pub mod Ticks
