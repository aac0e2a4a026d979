pub mod Edits
pub mod Rowed
pub mod Rises
pub mod Counts
