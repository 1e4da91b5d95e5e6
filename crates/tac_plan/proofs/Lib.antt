mod Examples
mod Passing
pub mod Roomy
mod StayingRows
mod Staying
mod Unheld
