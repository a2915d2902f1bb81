pub mod EndLemmas
pub mod MeasureLemmas
pub mod MergeLemmas
pub mod PointNodes
pub mod PruningLemmas
pub mod StoreLemmas
pub mod ManyLemmas
