-- What is turned away has a number.
use mathlib.Core.Path.{◌≡◌, refl}
use mathlib.Core.Bool.{false, not}
use lib.Dec.{eqb}
use borrow.Author.Tests.{eqb-false}
use Rattle.std.specs.Prelude.{Result, Ok, Err}
use Rattle.std.specs.Result.{IsErrAnd, is_err}
use Rattle.std.proofs.lemmas.Result.{err_from_is_err_and}
use Rattle.numbers.specs.declared.Refusal.{Refusal}
use Rattle.numbers.specs.declared.Refusal.TheVariants.{WrongRamLength, WrongParityLength, WrongDataLength, WrongWidth, BeyondRam, WrongAnswers, ShortLog, LargeValue, WrongControl, WrongExternalWrite, TwoOfOneTag, LargeTag, LargeLru, TestWithCdClear, WrongTestLine, WrongCarriedWrites, WrongRange, TooManyRanges}
use Rattle.numbers.specs.Numbers.{answer_of, number_of}

pub has_number : (refusal : Refusal) → eqb (number_of refusal) 0 ≡ false
has_number WrongRamLength = refl
has_number WrongParityLength = refl
has_number WrongDataLength = refl
has_number WrongWidth = refl
has_number BeyondRam = refl
has_number WrongAnswers = refl
has_number ShortLog = refl
has_number LargeValue = refl
has_number WrongControl = refl
has_number WrongExternalWrite = refl
has_number TwoOfOneTag = refl
has_number LargeTag = refl
has_number LargeLru = refl
has_number TestWithCdClear = refl
has_number WrongTestLine = refl
has_number WrongCarriedWrites = refl
has_number WrongRange = refl
has_number TooManyRanges = refl

pub numbered : (refusal : Refusal) → number_of refusal ≡ 0 → ⊥
numbered refusal e = eqb-false _ 0 (has_number refusal) e

-- what a `?` passes on answers as what was turned away
pub passed_on : (done : Result Unit Refusal) (refusal : Refusal) → IsErrAnd done (λ e. e ≡ refusal) → answer_of done ≡ number_of refusal
passed_on done refusal h = let p = err_from_is_err_and done h in rw (p.1, p.2)

-- what was turned away is what has a number
pub err_numbered : (done : Result Unit Refusal) → is_err done ≡ not (eqb (answer_of done) 0)
err_numbered (Ok unit) = refl
err_numbered (Err refusal) = rw (has_number refusal)
