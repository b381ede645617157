pub mod Choice
pub mod Checks
pub mod Tables
pub mod Promises
pub mod Words
