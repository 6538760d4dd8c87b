pub mod Runs
pub mod Unions
pub mod Told
pub mod Sides
pub mod SinglePlaces
