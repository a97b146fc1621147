pub mod Courses
pub mod Walking
pub mod Links
pub mod Tables
pub mod Replies
