pub mod Refused
pub mod Told
pub mod Text
pub mod Order
