pub mod Equality
pub mod Internal
pub mod Searches
