mod AskingLemmas
mod AnswerLemmas
pub mod RoundTrip
