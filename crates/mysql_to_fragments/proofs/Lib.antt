pub mod ContentMapLemmas
pub mod WalkLemmas
mod NanLemmas
