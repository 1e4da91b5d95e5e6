pub mod Words
pub mod Printed
