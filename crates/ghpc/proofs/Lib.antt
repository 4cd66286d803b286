pub mod GhpcAnswers
pub mod Layers
pub mod Looks
pub mod LowAnswers
