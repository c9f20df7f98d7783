-- What a call and a move are, without any test.
pub mod Unchecked
