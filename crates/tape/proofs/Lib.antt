pub mod Printing
pub mod Scanning
pub mod Feeds
pub mod Words
pub mod Laws
