-- Words of contracts that no user of the library meets: a reader need not believe them.
pub mod Growth
pub mod Links
pub mod Loans
pub mod Merges
pub mod NodeVecs
pub mod Order
pub mod Permutations
pub mod Places
pub mod Plans
pub mod Relocation
pub mod Trails
pub mod Writes
