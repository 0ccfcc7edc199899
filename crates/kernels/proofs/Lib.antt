pub mod FirstWrong
pub mod Terms
