pub mod DepthTables
mod Samples
mod Gathering
mod Arms
mod Listing
mod Settling
mod Walking
mod Reading
mod Telling
