-- What the programs' rooms hold, and what is proved of reading into them.
pub mod Rooms
pub mod Claims
