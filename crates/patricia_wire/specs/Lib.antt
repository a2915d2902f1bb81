pub mod Counts
pub mod Faults
pub mod Forests
pub mod Internal
pub mod Records
pub mod TreeBytes
pub mod WireLaws
pub mod Writings
