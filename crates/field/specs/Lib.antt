-- What key fields mean: the number layout, fields of a record, the code's values in the document's terms,
-- what is proved, and the examples.
pub mod Layout
pub mod Field
pub mod Readings
pub mod Claims
pub mod Examples
