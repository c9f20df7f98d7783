-- A question in bytes: numbers, party records, what stands at which byte, and what is proved of it.
pub mod Bytes
pub mod Records
pub mod Layout
pub mod Claims
