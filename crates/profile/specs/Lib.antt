pub mod Failures
pub mod Opening
