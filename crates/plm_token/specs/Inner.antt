pub mod Front
pub mod Keywords
