mod ListedLaws
mod StepLaws
pub mod ShownLaws
pub mod EntryLaws
pub mod StockedLaws
pub mod VendorLaws
pub mod FollowLaws
pub mod HeldLaws
