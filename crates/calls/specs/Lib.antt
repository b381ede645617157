pub mod Parts
pub mod Setup
pub mod Words
pub mod Laws
