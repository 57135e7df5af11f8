pub mod ReadState
pub mod WalkState
pub mod CountState
pub mod Sound
pub mod Listed
pub mod Schemas
pub mod Files
pub mod Report
