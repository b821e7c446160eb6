pub mod EightCases
