pub mod Points
pub mod Denoters
pub mod Declarations
pub mod Headings
pub mod Hiding
pub mod Views
