pub mod Faults
pub mod LineWalk
pub mod Numerals
pub mod Pieces
pub mod Results
pub mod Walk
