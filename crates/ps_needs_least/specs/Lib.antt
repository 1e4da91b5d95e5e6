pub mod Uses
pub mod Gathered
pub mod Paths
pub mod Least
pub mod Nodes
pub mod Settled
pub mod Tabled
pub mod Answers
