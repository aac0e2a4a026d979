pub mod Judged
pub mod Coming
pub mod Told
pub mod Front
pub mod Few
