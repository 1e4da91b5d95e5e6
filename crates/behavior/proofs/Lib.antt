pub mod Transcripts
pub mod Sameness
