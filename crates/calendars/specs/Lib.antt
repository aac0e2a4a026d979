pub mod Refused
pub mod Rows
pub mod Told
pub mod Meanings
pub mod Calendars
pub mod Memory
