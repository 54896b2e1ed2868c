pub mod ProgramLemmas
pub mod WordLemmas
