pub mod Passed
pub mod Laws
