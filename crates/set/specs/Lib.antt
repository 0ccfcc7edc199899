pub mod Limits
pub mod Noise
pub mod Rules
