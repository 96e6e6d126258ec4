mod AnswerFacts
mod LineFacts
pub mod ReplayFacts
