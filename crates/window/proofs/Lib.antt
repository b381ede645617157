pub mod Window
pub mod Laws
pub mod Passes
pub mod Arrays
