-- What each line of the output reads.
pub mod Lines
