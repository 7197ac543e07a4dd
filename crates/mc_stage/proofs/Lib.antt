pub mod Elements
pub mod Images
pub mod Links
pub mod Plays
pub mod Calls
pub mod LinkCalls
pub mod Doors
