-- Proofs of the laws. No contract cites them: they stand in specs/ because an impl proves its law in the code, which can name files of specs/ alone.
pub mod Listed
pub mod Coded
pub mod Flat
pub mod Short
pub mod Layer
pub mod Steps
