pub mod Sums
pub mod Numbered
pub mod Written
