pub mod Certificates
pub mod Explain
pub mod Failures
pub mod Files
pub mod Jobs
pub mod NeedLines
pub mod Runs
pub mod Watched
