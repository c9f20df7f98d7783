-- What good form is.
pub mod Form
