-- Why a number that was written is read back, and why the text of a schedule, and only that, is read as one.
pub mod Numerals
pub mod Stands
pub mod OnlyWritten
pub mod Lies
pub mod Written
