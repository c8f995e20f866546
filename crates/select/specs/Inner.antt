pub mod Settling
pub mod Assembly
pub mod Arriving
pub mod Numbering
pub mod Selecting
pub mod Rows
