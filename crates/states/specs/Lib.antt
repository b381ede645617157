pub mod After
pub mod Turns
pub mod Laws
