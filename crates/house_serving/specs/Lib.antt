pub mod Served
pub mod Counting
pub mod Orders
pub mod InDoubt
pub mod Links
