pub mod Refused
pub mod Words
pub mod Capped
pub mod Told
pub mod Judged
