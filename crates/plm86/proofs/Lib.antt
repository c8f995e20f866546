pub mod Machine
pub mod Headline
pub mod Composition
pub mod Meets
mod Reading
mod Streams
mod Phases
mod OneProgram
mod BuiltRuns
mod Going
mod Allowed
mod CaseTurns
