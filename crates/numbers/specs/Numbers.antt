-- The number of each refusal, and what a call answers.
use Rattle.std.specs.Prelude.{ℕ, Result, Ok, Err}
use Rattle.numbers.specs.declared.Refusal.{Refusal}
use Rattle.numbers.specs.declared.Refusal.TheVariants.{WrongRamLength, WrongParityLength, WrongDataLength, WrongWidth, BeyondRam, WrongAnswers, ShortLog, LargeValue, WrongControl, WrongExternalWrite, TwoOfOneTag, LargeTag, LargeLru, TestWithCdClear, WrongTestLine, WrongCarriedWrites, WrongRange, TooManyRanges}

abbrev pub number_of : Refusal → ℕ
number_of WrongRamLength = 1
number_of WrongParityLength = 2
number_of WrongDataLength = 3
number_of WrongWidth = 4
number_of BeyondRam = 5
number_of WrongAnswers = 6
number_of ShortLog = 7
number_of LargeValue = 8
number_of WrongControl = 9
number_of WrongExternalWrite = 10
number_of TwoOfOneTag = 21
number_of LargeTag = 22
number_of LargeLru = 23
number_of TestWithCdClear = 31
number_of WrongTestLine = 32
number_of WrongCarriedWrites = 33
number_of WrongRange = 37
number_of TooManyRanges = 38

-- 0 where a call is done, else the number that turns it away.
abbrev pub answer_of : Result Unit Refusal → ℕ
answer_of (Ok done) = 0
answer_of (Err refusal) = number_of refusal
