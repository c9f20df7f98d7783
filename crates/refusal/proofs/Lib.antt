-- The proofs of what specs/ claims of refusals and verdicts, the laws of answers, and that the contract leaves no choice.
pub mod Laws
pub mod Told
pub mod Determined
