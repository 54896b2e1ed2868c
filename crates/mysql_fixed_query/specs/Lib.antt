pub mod Bindable
pub mod FixedText
