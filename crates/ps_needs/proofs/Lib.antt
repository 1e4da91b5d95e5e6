mod Environments
mod Expressions
mod Statements
mod Needs
