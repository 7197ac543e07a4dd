pub mod SearchLaws
pub mod TextLaws
pub mod IndexLaws
pub mod ReplyLaws
pub mod InsertLaws
pub mod FoundLaws
pub mod ForgetLaws
