pub mod View
pub mod Runs
pub mod Start
pub mod Laws
pub mod Numbers
