-- What a read and a write of a column mean, and what is proved of them.
pub mod Column
pub mod Claims
