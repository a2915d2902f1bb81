pub mod AfterLemmas
mod BulkLemmas
mod CursorLemmas
pub mod FoundLemmas
pub mod LeftLemmas
mod LoadLemmas
mod LoanLemmas
mod SetLemmas
mod WholeLemmas
mod RetainLemmas
mod ManyLemmas
mod ChoiceLemmas
mod CollectLemmas
mod FoldLemmas
mod MergeLemmas
mod LongestLemmas
mod VisitLemmas
pub use Rattle.patricia_model.proofs.FilterLemmas
pub use Rattle.patricia_model.proofs.ListLemmas
pub use Rattle.patricia_model.proofs.PrefixLemmas
pub use Rattle.patricia_model.proofs.TestLemmas
