pub mod View
pub mod Steps
pub mod Laws
pub mod Window
