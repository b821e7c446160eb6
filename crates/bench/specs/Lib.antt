pub mod Inputs
pub mod Lists
pub mod Steps
pub mod Telling
pub mod TickLines
