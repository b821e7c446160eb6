pub mod Closings
pub mod Knowing
pub mod KnownLaws
pub mod Places
pub mod Rounding
pub mod Turns
