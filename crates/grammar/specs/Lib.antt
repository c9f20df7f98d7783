-- What reading makes of a number that was written, and of a schedule that was.
pub mod Numerals
pub mod Schedule
pub mod Claims
