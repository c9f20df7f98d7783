-- What is written into a lent buffer, and what is proved of it.
pub mod Page
pub mod Claims
