pub mod Numbers
pub mod Judged
pub mod Counted
pub mod Whole
