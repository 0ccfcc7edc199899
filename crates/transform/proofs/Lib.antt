pub mod Shoup
pub mod Barrett
pub mod Folding
pub mod OddPlaces
pub mod Interpolation
