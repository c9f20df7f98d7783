-- What a party record and the state are.
pub mod Party
pub mod State
