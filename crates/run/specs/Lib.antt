pub mod Phases
pub mod Runs
