pub mod Polynomials
pub mod Reading
pub mod Lengths
pub mod Schoolbook
pub mod Reduced
pub mod PlainKernelLemmas
