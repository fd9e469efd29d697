pub mod Limits
pub mod Piles
pub mod Examples
pub mod Laws
