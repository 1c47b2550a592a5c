pub mod Loops
pub mod Chain
pub mod Usual
