pub mod Lines
pub mod Words
pub mod Scanning
pub mod Printing
pub mod Examples
pub mod Laws
