-- Why the probe asks and shows as promised, and that its contract leaves no choice.
pub mod Laws
pub mod Refused
pub mod Room
pub mod Determined
