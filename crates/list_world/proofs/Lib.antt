-- The list as rows alone: what a world is, what the swaps do to it, which keys live in it, what a walk knows of it; each notion before its laws.
pub mod World
pub mod WorldLaws
pub mod Writes
pub mod Live
pub mod Extends
pub mod Swap
pub mod ExtendsLaws
pub mod LiveLaws
pub mod Walk
pub mod WalkLaws
pub mod KeysFrom
pub mod KeysFromLaws
