pub mod ExplainLemmas
pub mod WordsLemmas
