pub mod Laid
pub mod Responses
pub mod Seeking
pub mod Walk
