pub mod ProgramWordsLemmas
