pub mod Computing
pub mod Fetching
pub mod Entries
pub mod RomSteps
pub mod StepEffects
mod Told
