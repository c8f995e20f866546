pub mod Settled
pub mod Attached
pub mod Counted
pub mod LawfulMemory
pub mod Reading
pub mod Steps
pub mod Stretch
pub mod Timetable
