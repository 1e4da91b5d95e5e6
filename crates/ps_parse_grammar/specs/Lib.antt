pub mod Symbols
pub mod Expressions
pub mod Statements
pub mod Programs
pub mod Forward
pub mod Groups
pub mod Trees
pub mod Places
