pub mod Memory
pub mod View
pub mod Runs
pub mod Start
pub mod Standing
pub mod Laws
pub mod Numbers
mod Example
