pub mod Least
pub mod FirstWrong
