-- That the contract leaves no choice.
pub mod Determined
