mod HexLemmas
mod OpenLemmas
mod OnlyLemmas
mod AnswerLemmas
mod RunLemmas
mod PartyLemmas
mod StagingLemmas
mod ScriptLemmas
