-- That readings tell the case, and that the contracts leave no choice.
pub mod Told
pub mod Determined
