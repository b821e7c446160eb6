pub mod LinesRead
pub mod Reports
