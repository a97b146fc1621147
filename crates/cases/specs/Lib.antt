pub mod Kinds
pub mod Laws
pub mod Fnv
pub mod Answers
pub mod Tallies
pub mod Words
