pub mod App
pub mod Command
pub mod Options
pub mod Wanted
