pub mod Laws
pub mod Needed
