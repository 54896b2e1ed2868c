pub mod TextLemmas
pub mod JoinedLemmas
pub mod FragmentLemmas
pub mod SentFragmentLemmas
pub mod SplicedFragmentLemmas
pub mod ShapeLemmas
pub mod ReadFragmentLemmas
pub mod PlaceLemmas
pub mod CauseLemmas
pub mod ExpandedLemmas
pub mod FilledLemmas
pub mod FillLemmas
pub mod CellLemmas
pub mod SaidLemmas
pub mod RoomLemmas
pub mod BoundBorrowedLemmas
pub mod ValueFragmentLemmas
pub mod InPlaceLemmas
pub mod SaidExistLemmas
mod DoubleTokenLemmas
mod FragmentListLemmas
pub mod SteadyPartLemmas
pub mod SteadyFragmentLemmas
pub mod RefusedQueryLemmas
pub mod GuardedFragmentLemmas
pub mod WideFragmentLemmas
pub mod SaidSteadyLemmas
pub mod SteadyRoomLemmas
pub mod FragmentMapLemmas
pub mod BracketLemmas
pub mod BracketClosesLemmas
pub mod BracketWalkLemmas
pub mod BracketLawLemmas
mod OneFragmentsLemmas
pub mod TextOfFragmentsLemmas
