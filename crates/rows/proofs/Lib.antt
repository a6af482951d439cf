-- Laws that the proofs of several functions cite, and `printed_scanned` in `Decimal`.
pub mod Decimal
pub mod Printing
