-- What the encoder and the decoder stand on: a reader need not believe it.
pub mod Examples
pub mod Readings
pub mod SiblingsLaws
pub mod WrittenSiblings
