pub mod Below
pub mod NextPlaces
