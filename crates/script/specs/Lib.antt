-- What a schedule's lines are, and which line breaks the rules first.
pub mod Lines
pub mod Head
pub mod Body
pub mod Claims
