pub mod SlowLaws
pub mod CountLaws
pub mod Found
pub mod NewLaws
pub mod TableSteps
pub mod LawfulSteps
pub mod FirstUnlawful
