pub mod Table
pub mod Passes
pub mod Scalars
pub mod Examples
pub mod Ascii
pub mod Ranges
