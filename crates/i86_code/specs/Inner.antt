pub mod OpenForms
pub mod Reading
