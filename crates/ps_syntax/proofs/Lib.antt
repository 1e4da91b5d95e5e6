pub mod Nodes
pub mod Greatest
pub mod HeightLemmas
