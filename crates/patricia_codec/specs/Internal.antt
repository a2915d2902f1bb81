-- What the calls of this crate promise each other: a reader need not believe it.
pub mod Builds
pub mod Growing
pub mod Lefts
pub mod Pieces
pub mod Placing
pub mod Steps
