pub mod Words
pub mod Linked
pub mod Bytes
pub mod Head
