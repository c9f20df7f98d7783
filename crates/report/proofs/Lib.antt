-- Why the lines are written as promised.
pub mod Laws
pub mod Room
pub mod Determined
