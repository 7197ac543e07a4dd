pub mod Refusals
pub mod RefusalArgs
pub mod Limits
pub mod Requests
pub mod Dates
pub mod Replies
pub mod Errands
pub mod ErrandViews
