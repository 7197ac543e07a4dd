pub mod LineLoops
pub mod ResoldLaws
