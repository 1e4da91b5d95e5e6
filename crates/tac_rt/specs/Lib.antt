pub mod Bodies
pub mod Calls
pub mod Inputs
pub mod Laws
pub mod Numbers
