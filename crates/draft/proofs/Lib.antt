pub mod FieldLaws
pub mod ReadingLaws
pub mod TextLaws
