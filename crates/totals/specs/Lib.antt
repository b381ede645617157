pub mod Bringing
pub mod Laws
