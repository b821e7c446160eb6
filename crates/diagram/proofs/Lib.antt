pub mod Legibles
pub mod LineFields
pub mod MarkLaws
pub mod ReadLaws
pub mod WiringLaws
