pub mod NewStock
pub mod Slow
pub mod Shown
