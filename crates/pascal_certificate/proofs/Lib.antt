mod Holding
mod Lines
mod Readings
pub mod Sealing
