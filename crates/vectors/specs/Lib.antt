pub mod Spoken
pub mod Verdicts
pub mod Replies
pub mod Tallies
pub mod Walks
