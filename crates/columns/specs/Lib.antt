pub mod Examples
pub mod Numbers
pub mod Packing
