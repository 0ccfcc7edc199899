pub mod Registers
pub mod Marks
pub mod Steps
pub mod Wrong
