pub mod Limits
pub mod Products
pub mod Sums
pub mod Rules
