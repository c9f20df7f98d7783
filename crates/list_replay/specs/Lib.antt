-- The whole output of a schedule's text, what is proved of it, and whole texts with their outputs.
pub mod Output
pub mod Claims
pub mod Examples
