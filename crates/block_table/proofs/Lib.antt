-- Laws that the proofs of functions cite, and the claims of `Table`: long lines, a loaded table's answers, the text of a table.
pub mod Entries
pub mod Loading
pub mod Given
pub mod Printed
