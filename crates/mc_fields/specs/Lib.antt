pub mod Texts
pub mod Reading
pub mod Gives
pub mod Field
pub mod Form
pub mod Puts
pub mod Stops
pub mod Cuts
