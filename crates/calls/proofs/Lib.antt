pub mod Parts
pub mod Setups
pub mod InWords
pub mod Laws
