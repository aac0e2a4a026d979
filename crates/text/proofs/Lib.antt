pub mod Figures
pub mod Pieces
pub mod Sixteens
pub mod Parted
pub mod Digits
pub mod Fronts
