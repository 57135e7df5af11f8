pub mod DepositLemmas
pub mod DepositCrashes
pub mod SessionLemmas
pub mod PathLemmas
pub mod PathJobs
