pub mod Usages
pub mod Names
pub mod Entries
pub mod Texts
pub mod Answers
