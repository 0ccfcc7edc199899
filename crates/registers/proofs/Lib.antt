pub mod Memory
pub mod Opposite
pub mod Smallest
pub mod Refusals
pub mod Gated
pub mod Accepted
pub mod Picks
