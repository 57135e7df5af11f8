pub mod PatternJobsLemmas
