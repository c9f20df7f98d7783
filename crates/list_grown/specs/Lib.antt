-- Histories of calls and moves after a set-up, their counts, and what is proved of every list that they grow.
pub mod History
pub mod Counts
pub mod Deeds
pub mod Rest
pub mod Demands
pub mod Answers
pub mod Instances
