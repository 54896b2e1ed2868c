mod ValueOrderLemmas
pub mod LiteralLemmas
mod TextCellLemmas
mod BinaryRowLemmas
mod RowReadBackLemmas
mod BinaryLemmas
mod TextLemmas
pub mod InLineLemmas
