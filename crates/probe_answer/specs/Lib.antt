-- What the probe is asked, what comes of it, and what is proved of it.
pub mod Probe
pub mod Claims
