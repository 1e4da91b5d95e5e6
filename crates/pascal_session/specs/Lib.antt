pub mod Ahead
pub mod Console
pub mod Report
pub mod Session
pub mod Transfers
