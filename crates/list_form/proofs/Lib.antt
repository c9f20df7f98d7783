-- Good form as facts, the laws that the proofs of the code cite, and that the contracts leave no choice.
pub mod Good
pub mod Determined
pub mod Rows
