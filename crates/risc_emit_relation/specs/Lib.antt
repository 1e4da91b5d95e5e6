pub mod Context
pub mod Related
pub mod Changes
pub mod Walk
pub mod Laws
