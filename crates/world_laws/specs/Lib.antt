pub mod Doors
pub mod Links
pub mod Requests
pub mod Runs
pub mod Wires
