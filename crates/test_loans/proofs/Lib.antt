mod FirstLemmas
pub mod KeyListLemmas
pub mod CountLemmas
