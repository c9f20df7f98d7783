-- The laws of the number layout, of fields and of the entry points, and that the contracts leave no choice.
pub mod Laws
pub mod Numbers
pub mod Fields
pub mod Entry
pub mod Promises
pub mod Determined
pub mod Examples
