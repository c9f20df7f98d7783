-- What calls, answers and tallies are, whatever engine works on them, and what is proved of them.
pub mod Calls
pub mod Words
pub mod Tallies
pub mod Claims
