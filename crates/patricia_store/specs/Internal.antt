-- Words of contracts that no user of the library meets: a reader need not believe them.
pub mod Bodies
pub mod Examples
pub mod Heads
pub mod Labels
pub mod Loans
pub mod Nodes
pub mod Packing
pub mod Permutations
pub mod Renumbering
pub mod Stores
