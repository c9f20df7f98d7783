-- Why a line does what is promised.
pub mod Checked
pub mod Four
pub mod Determined
