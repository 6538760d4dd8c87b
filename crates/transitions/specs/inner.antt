pub mod Parting
pub mod Numbers
pub mod Listing
