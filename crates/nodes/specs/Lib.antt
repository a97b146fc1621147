pub mod Marks
pub mod Stack
pub mod Ahead
pub mod Homes
pub mod Placed
pub mod Children
