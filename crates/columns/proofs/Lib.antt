-- The laws of columns, each once for all three widths, and that the contracts leave no choice.
pub mod Laws
pub mod Determined
