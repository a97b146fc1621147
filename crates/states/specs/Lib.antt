pub mod Documents
pub mod Adding
pub mod Sending
pub mod Returned
pub mod Asking
pub mod Awaiting
pub mod ComingBack
