-- Laws that several proofs cite.
mod Log
