-- The theorem is `either_flush_rule`.
mod Accesses
pub mod EitherRule
