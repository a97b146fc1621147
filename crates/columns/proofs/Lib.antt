pub mod Listed
pub mod ReadBack
