pub mod Requests
pub mod Holdings
pub mod Newness
pub mod Follows
pub mod Asks
pub mod Received
pub mod Settling
pub mod Laws
