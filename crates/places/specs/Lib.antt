pub mod Ranks
pub mod Shifts
pub mod Edits
pub mod Used
pub mod Values
