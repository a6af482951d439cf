-- Demand 3 for the program's rows: what a reader must believe of this crate.
pub mod Program
