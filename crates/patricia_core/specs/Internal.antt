-- Words of contracts that no user of the library meets: a reader need not believe them.
pub mod Loans
pub mod Pruners
pub mod Pruning
pub mod Stores
