pub mod Lengths
pub mod Days
pub mod Text
