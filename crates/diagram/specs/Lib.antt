pub mod Diagrams
pub mod Lines
pub mod Marks
pub mod Reading
pub mod Wiring
pub mod Writing
