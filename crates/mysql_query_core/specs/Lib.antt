pub mod Words
pub mod WordErrors
pub mod Program
pub mod RunErrors
