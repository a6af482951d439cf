-- Laws that several proofs cite. A crate above works from `Laws`, `SetState` and `Alike`; `Lines` is for their proofs.
mod Lines
pub mod SetState
pub mod Laws
pub mod Alike
mod Lent
