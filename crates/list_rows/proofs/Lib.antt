-- The order of the rows, and that the contracts leave no choice.
pub mod Order
pub mod Lent
pub mod Determined
