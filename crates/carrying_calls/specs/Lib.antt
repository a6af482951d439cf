-- No rule: what the code of a read that carries writes leaves.
pub mod CarryingCalls
