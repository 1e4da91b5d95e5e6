pub mod Asked
pub mod Pages
