-- The board table: what a reader must believe of this crate.
pub mod Board
