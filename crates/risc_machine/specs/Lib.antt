pub mod Console
pub mod Streams
pub mod Fused
pub mod Step
pub mod Table
pub mod Exec
pub mod Laws
