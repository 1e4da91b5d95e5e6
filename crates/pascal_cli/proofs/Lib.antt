pub mod Answered
pub mod Certified
pub mod Done
pub mod Failed
pub mod Made
pub mod NeededLines
pub mod Ran
mod Settled
pub mod Shown
pub mod Watches
