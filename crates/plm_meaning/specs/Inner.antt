pub mod Context
pub mod Meaning
pub mod Redex
pub mod Shown
pub mod Start
pub mod Owners
