-- What private contracts cite: the machine over tokens, the parts that it reads, and views of the code's own values.
pub mod Terminal
pub mod Symbol
pub mod Machine
pub mod Runs
pub mod Parsed
pub mod Parts
pub mod Blocks
pub mod Name
pub mod NamedToken
pub mod Names
pub mod Scope
pub mod Known
pub mod Literals
pub mod Answer
