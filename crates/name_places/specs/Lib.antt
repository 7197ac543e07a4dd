pub mod NamePlaces
