-- What the refusals mean: their numbers, answers in the document's terms, and what is proved of both.
pub mod Number
pub mod Answer
pub mod Claims
