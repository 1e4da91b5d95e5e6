pub mod Ghosts
pub mod Here
pub mod Outcomes
pub mod Spans
pub mod Laws
pub mod Sets
pub mod Reading
pub mod RunTime
