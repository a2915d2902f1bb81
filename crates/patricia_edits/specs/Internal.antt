-- Words of contracts that no user of the library meets: a reader need not believe them.
pub mod Copies
pub mod Ends
pub mod Inserts
pub mod Prunings
pub mod Removes
pub mod Splits
