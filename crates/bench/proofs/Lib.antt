pub mod Counting
pub mod Asking
pub mod Rewriting
