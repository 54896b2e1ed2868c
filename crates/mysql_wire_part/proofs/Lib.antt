pub mod ReadingLemmas
pub mod LenencLemmas
pub mod AnswerLemmas
