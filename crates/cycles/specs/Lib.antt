-- No rule: what the code of cycles sends.
pub mod Sent
