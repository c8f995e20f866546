pub mod Arithmetic
pub mod Step
pub mod Runs
