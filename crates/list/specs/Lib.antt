-- What the entry points promise: set-up, call, move, listing, refusals in order, answers in the document's terms.
pub mod Engine
pub mod Answers
pub mod Claims
pub mod Run
pub mod Examples
