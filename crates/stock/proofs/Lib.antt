pub mod Sights
pub mod Changes
pub mod Calls
pub mod Laws
