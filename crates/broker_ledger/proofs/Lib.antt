mod LedgerLaws
mod StandingLaws
pub mod LearnLaws
mod TaskLaws
mod FollowLaws
mod Rows
