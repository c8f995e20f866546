pub mod Bounded
pub mod Registers
pub mod Needing
pub mod Depths
pub mod Known
pub mod Whole
pub mod Limiting
