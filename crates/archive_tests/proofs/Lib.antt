pub mod TestSessionLemmas
