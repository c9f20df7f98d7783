-- The proofs of what specs/Claims states of the entry points, and the laws that the proofs of the code cite.
pub mod Laws
pub mod Keeps
pub mod Kept
pub mod Fuel
pub mod Promises
pub mod Examples
pub mod Determined
