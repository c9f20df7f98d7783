-- What rows are: the table of the four columns, the order of rows, what is written.
pub mod Table
pub mod Order
pub mod Writes
pub mod Claims
