pub mod Drafts
pub mod Drawings
pub mod Limits
pub mod Lines
pub mod Reading
pub mod Text
pub mod Walk
