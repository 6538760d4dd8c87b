pub mod Lists
pub mod Placing
pub mod Numbers
