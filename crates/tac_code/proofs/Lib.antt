pub mod Impossible
pub mod Items
pub mod Numbers
pub mod Each
pub mod Texts
