pub mod ExampleLemmas
pub mod RangeLemmas
