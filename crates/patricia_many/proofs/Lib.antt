pub mod AheadLemmas
pub mod LookupLemmas
pub mod StageLemmas
