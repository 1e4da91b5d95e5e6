pub mod Facts
pub mod Form
pub mod Sealed
pub mod Differences
pub mod Verdict
pub mod Compared
