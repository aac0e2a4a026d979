pub mod Words
pub mod Lines
pub mod Problems
pub mod Answers
