pub mod Giving
pub mod Hearing
pub mod Listening
pub mod Trips
