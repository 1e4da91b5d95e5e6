pub mod Filling
pub mod Entering
pub mod Binding
pub mod Routines
pub mod Passing
pub mod Begin
pub mod Laws
