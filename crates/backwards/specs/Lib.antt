pub mod Backwards
pub mod Laws
