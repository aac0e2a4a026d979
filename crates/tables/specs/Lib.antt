pub mod Refused
pub mod Seats
pub mod Numbers
