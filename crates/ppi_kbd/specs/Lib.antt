pub mod Interface
pub mod Keyboard
pub mod Device
pub mod Chips
pub mod Ports
pub mod Calls
pub mod BoardChips
