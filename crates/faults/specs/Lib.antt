pub mod Causes
pub mod Least
pub mod Lengths
pub mod Texts
