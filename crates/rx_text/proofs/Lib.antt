mod Placing
pub mod Digits
