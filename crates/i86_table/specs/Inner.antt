pub mod RegisterFile
pub mod LateFlags
