pub mod Progress
pub mod Segment
