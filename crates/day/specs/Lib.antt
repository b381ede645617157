pub mod Blocks
pub mod Progress
pub mod Flow
pub mod Spoken
pub mod Contents
pub mod Printed
pub mod Laws
