pub mod Laws
pub mod Strips
pub mod Fitted
pub mod Overs
