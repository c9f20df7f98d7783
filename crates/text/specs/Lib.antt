-- What is read at a place of a text.
pub mod Reading
pub mod Claims
