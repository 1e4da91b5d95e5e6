pub mod Impossible
pub mod Items
pub mod Lists
pub mod Binds
pub mod Pairs
