pub mod Soups
pub mod Hauls
pub mod HaulsState
pub mod HaulTable
pub mod HaulJobs
pub mod HaulWords
pub mod HaulLaws
pub mod HaulProgram
