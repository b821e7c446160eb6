pub mod Playing
pub mod Solving
pub mod Supplies
