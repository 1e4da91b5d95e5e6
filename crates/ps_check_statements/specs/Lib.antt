pub mod Assignments
pub mod Structured
pub mod Procedures
pub mod Statements
pub mod View
