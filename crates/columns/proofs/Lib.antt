-- The theorem is `every_table`, and of the program's own table `columns`.
pub mod Tables
pub mod Columns
