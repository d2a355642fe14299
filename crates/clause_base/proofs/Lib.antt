pub mod PoolLemmas
pub mod ExampleLemmas
pub mod ListLemmas
pub mod LiteralLemmas
pub mod DerivedLemmas
