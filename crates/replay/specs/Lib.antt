pub mod Given
pub mod Says
pub mod Listening
pub mod Trips
pub mod Compared
