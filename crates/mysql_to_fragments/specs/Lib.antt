pub mod FragmentContent
pub mod Arguments
pub mod NamedContents
