pub mod Kept
pub mod Numbers
pub mod Memory
pub mod Meaning
pub mod Sound
pub mod Run
pub mod Printed
