-- Why writing is as promised, what a buffer holds once bytes were put into it, and that the contracts leave no choice.
pub mod Laws
pub mod Room
pub mod Determined
