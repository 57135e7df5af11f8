pub mod ArchiveStopLine
pub mod Deposit
pub mod Session
pub mod ArchivePath
