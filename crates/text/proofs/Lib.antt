-- Why reading is as promised, and that the contracts leave no choice.
pub mod Laws
pub mod Bytes
pub mod Determined
