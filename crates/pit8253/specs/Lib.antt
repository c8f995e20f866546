pub mod Progress
pub mod Timer
pub mod Element
pub mod Channel
pub mod Pit
pub mod Calls
pub mod Alike
pub mod Inner
