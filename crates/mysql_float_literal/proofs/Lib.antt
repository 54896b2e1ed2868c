mod BesideLemmas
mod BesideReadLemmas
mod ToldLemmas
mod QuickLemmas
mod BitLemmas
mod ClosestLemmas
mod ConvexLemmas
mod DigitLemmas
mod ReadsLemmas
mod ShortestLemmas
mod DoubleEndLemmas
mod LayoutLemmas
mod OneDigitsLemmas
mod OneTextLemmas
mod OneWrittenLemmas
mod OtherSpellingLemmas
mod PaddedLemmas
pub mod ReadBeforeLemmas
pub mod DoubleLemmas
mod SizeLemmas
mod WideLemmas
mod WrittenLemmas
pub mod DoubleTestLemmas
pub mod DoubleValueLemmas
