-- What a line of a schedule asks of the list, and what is proved of it.
pub mod Play
pub mod Claims
