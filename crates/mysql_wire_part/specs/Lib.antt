pub mod Answer
pub mod Reading
pub mod Lenenc
pub mod ParseBuf
pub mod Column
