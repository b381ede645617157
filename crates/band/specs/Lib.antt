pub mod Band
pub mod Words
pub mod Laws
pub mod Examples
