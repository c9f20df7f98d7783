-- What is known of what came of a stream, and that the contracts leave no choice.
pub mod Came
pub mod Determined
