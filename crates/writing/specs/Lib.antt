pub mod Refused
pub mod Filled
pub mod Writes
