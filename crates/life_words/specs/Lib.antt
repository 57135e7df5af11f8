pub mod Explain
pub mod WordFault
pub mod Words
