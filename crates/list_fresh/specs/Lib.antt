-- What an empty list is.
pub mod Fresh
