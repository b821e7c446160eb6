pub mod Capped
pub mod Cuts
pub mod NumberLaws
pub mod ResultLaws
