pub mod Rows
pub mod Encoding
pub mod Guards
pub mod Verdicts
pub mod Beginnings
