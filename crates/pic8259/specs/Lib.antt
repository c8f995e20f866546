pub mod Levels
pub mod Controller
pub mod Registers
pub mod Pic
pub mod Calls
pub mod Priority
