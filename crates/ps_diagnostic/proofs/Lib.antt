mod Columns
mod Letters
