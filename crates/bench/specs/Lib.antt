pub mod Chances
pub mod Fnv
pub mod Tallies
pub mod Hearing
pub mod Writing
pub mod Names
