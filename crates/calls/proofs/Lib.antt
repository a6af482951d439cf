-- That each call keeps the invariant of demand 3 and matches the plain memory (`call_matches` in `Steps`; `emptying_matches` where nothing was
-- compared before), from the bytes up. `Kept` has what any list keeps, whatever it sets; `Told` what the plain memory is told of a read; the laws of
-- `Drops` say what demand 3 cannot see.
mod Bytes
mod Memories
mod Replaced
mod Carrying
mod Cycles
mod Doublewords
mod Following
mod Counts
pub mod Kept
pub mod Coherence
mod Snooping
pub mod Landing
mod Reading
mod Writing
pub mod Numbers
pub mod Steps
pub mod Told
pub mod Drops
