-- Words of contracts that no user of the library meets: a reader need not believe them.
pub mod Codes
pub mod Levels
pub mod Turns
pub mod Words
