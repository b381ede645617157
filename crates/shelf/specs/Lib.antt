pub mod Blank
pub mod First
pub mod Laws
