mod Lookup
pub mod AtMost
pub mod Bounds
pub mod Deciding
pub mod Rising
