pub mod Cuts
pub mod KeyTextLemmas
pub mod MachineLemmas
pub mod Numbers
pub mod EntryLemmas
pub mod TextLemmas
pub mod Turns
