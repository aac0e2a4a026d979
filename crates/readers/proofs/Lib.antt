pub mod Ruled
pub mod Sizes
