pub mod Endings
pub mod Transcripts
pub mod Same
pub mod Laws
