pub mod JobStop
pub mod Streams
pub mod PatternJobs
pub mod PatternJobsState
