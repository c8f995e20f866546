pub mod Assignments
pub mod Put
pub mod Expressions
pub mod LowBytes
pub mod Loops
pub mod Statements
pub mod Lowering
