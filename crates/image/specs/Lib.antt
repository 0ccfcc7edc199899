pub mod Bytes
pub mod Directory
pub mod Parts
