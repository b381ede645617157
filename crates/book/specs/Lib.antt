pub mod Lent
pub mod Words
pub mod Setup
pub mod Layout
pub mod Laws
pub mod Demands
