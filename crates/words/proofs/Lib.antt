pub mod Powers
pub mod Moduli
pub mod Floors
pub mod Steps
pub mod Centred
pub mod Filling
pub mod Cover
pub mod Gadgets
