pub mod Told
pub mod Highs
pub mod Rows
pub mod Refusals
pub mod Loaded
pub mod Shown
