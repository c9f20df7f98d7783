-- The steps of the walks along the chain, and that the contracts leave no choice.
pub mod Walk
pub mod Determined
