pub mod Sought
pub mod Again
pub mod Steps
pub mod Fronts
pub mod Ruled
pub mod Judging
pub mod Ranges
