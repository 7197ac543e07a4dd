pub mod Said
pub mod Replies
pub mod Seen
pub mod Takes
pub mod Places
pub mod Arrivals
pub mod Written
