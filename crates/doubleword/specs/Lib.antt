-- What reads and writes share of 'One doubleword' of document 01: what a reader must believe of this crate.
-- `DoublewordCode` and `Cursor` are no rules: they say what the code's own structs stand for.
pub mod Doubleword
pub mod DoublewordCode
pub mod Cursor
