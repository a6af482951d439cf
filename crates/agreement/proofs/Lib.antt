-- The theorems are `demand3` with `goes_on` and `begun_anew`, and `numbers_that_arise`.
pub mod Demand
