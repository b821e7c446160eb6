pub mod Closings
pub mod Fitting
pub mod InPlace
pub mod Knowing
pub mod Lent
