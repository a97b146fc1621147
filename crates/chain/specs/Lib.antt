pub mod Chains
pub mod Walks
