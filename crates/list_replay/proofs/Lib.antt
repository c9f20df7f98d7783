-- Why the output is as promised.
pub mod Laws
pub mod Sound
pub mod Same
pub mod Judged
pub mod Room
pub mod Examples
pub mod Determined
