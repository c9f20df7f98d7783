-- What the chain and its live keys are.
pub mod Chain
