pub mod OpenAnswers
pub mod TrialAnswers
pub mod Demand3
pub mod Traced
