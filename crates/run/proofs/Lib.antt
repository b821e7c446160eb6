pub mod Calls
pub mod Closings
pub mod Finished
pub mod Fitting
