pub mod Numbers
pub mod Validity
pub mod Verdict
