pub mod Cutting
pub mod LineLaws
pub mod Opening
pub mod Playing
pub mod Telling
