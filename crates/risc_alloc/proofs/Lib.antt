mod Examples
pub mod Reading
pub mod Steps
pub mod Walking
pub mod Seating
pub mod Fitting
pub mod Slots
pub mod Whole
