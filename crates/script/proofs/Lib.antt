-- The lines of a body, that every reading leads on, that the fuel is enough, and that the contracts leave no choice.
pub mod Laws
pub mod Reach
pub mod Progress
pub mod Determined
