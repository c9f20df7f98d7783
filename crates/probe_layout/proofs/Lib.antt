-- Why a question is read and written as promised, and that the contracts leave no choice.
pub mod Fitting
pub mod Laws
pub mod Written
pub mod Long
pub mod Determined
