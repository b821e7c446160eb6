pub mod Tables
pub mod Firing
pub mod Settling
pub mod Solutions
pub mod Machine
pub mod Logs
