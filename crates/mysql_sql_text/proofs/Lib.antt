pub mod ByteNames
mod TwoBytesLemmas
pub mod PaddedLemmas
mod EscapeTableLemmas
pub mod MaskLemmas
mod BlockLemmas
mod EscapeWalkLemmas
mod EscapedLanesLemmas
pub mod AsciiLemmas
pub mod StringLemmas
pub mod ValueOfDigitsLemmas
pub mod TimeTextLemmas
pub mod WrittenTimeLemmas
pub mod ReadNaturalLemmas
pub mod ReadStringLemmas
pub mod ReadNumberLemmas
pub mod HexadecimalLemmas
pub mod ReadBytesLemmas
pub mod ClockLemmas
pub mod EscapedLemmas
pub mod QuotedLemmas
pub mod InLineLemmas
pub mod DigitLemmas
