-- What the moves are: one definition for each place.
pub mod Moves
