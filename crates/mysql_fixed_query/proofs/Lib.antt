pub mod TokensLemmas
pub mod GivenLemmas
pub mod CauseLemmas
pub mod AcceptedLemmas
pub mod TextLemmas
pub mod AnswerLemmas
