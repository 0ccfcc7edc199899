pub mod Mod
pub mod Mirrors
pub mod Built
pub mod Bits
pub mod Refusals
