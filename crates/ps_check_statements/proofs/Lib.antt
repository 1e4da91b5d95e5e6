pub mod Equations
pub mod Opening
pub mod Loops
pub mod Lists
pub mod Paired
pub mod Packs
