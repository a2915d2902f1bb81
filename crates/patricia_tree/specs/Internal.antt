-- Words of contracts that no user of the library meets: a reader need not believe them.
pub mod Fillings
pub mod Longest
pub mod Nexts
