pub mod Heights
pub mod Groups
pub mod Levels
pub mod ExpressionLevels
pub mod StatementLevels
pub mod TypeLevels
pub mod ProgramLevels
pub mod FirstPlaces
