pub mod Fewest
pub mod Counted
