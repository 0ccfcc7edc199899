pub mod Powers
pub mod Moduli
pub mod Rounding
pub mod Digits
pub mod Gadgets
