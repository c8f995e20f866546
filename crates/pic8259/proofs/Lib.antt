pub mod Priority
pub mod Rotation
pub mod Sets
