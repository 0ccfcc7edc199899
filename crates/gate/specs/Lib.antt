pub mod Letters
pub mod Stages
pub mod Lengths
pub mod Keys
pub mod Bits
pub mod Gates
pub mod Laws
