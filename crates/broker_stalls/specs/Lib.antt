pub mod Stalls
pub mod Listed
pub mod Shown
pub mod Vendors
