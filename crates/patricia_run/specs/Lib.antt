pub mod Answers
pub mod Internal
pub mod Machine
pub mod KeyFormats
pub mod Text
pub mod Writing
