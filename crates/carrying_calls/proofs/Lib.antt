-- Laws that both forms of the call cite.
pub mod Snoops
pub mod CarryingLoop
