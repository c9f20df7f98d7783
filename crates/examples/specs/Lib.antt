-- What an example shows, and the table of all of them.
pub mod Example
pub mod Table
