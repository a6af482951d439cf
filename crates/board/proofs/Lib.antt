-- Laws that the proof of the loop cites, and laws of all answers.
pub mod Answers
pub mod Within
