-- Numbers in order: what a `?` passes on is the first that is met, and what it lets through is met by a later one.
use Prim.Native.Nat.{ℕ}
use mathlib.Core.Path.{◌≡◌}
use Rattle.std.specs.Prelude.{Result}
use Rattle.std.specs.Result.{IsErrAnd}
use Rattle.numbers.specs.declared.Refusal.{Refusal}
use Rattle.numbers.specs.Numbers.{answer_of, number_of}
use Rattle.numbers.proofs.Refused.{has_number, passed_on}
use Rattle.refusal.specs.Refusal.{or_else}

-- the number that a `?` passes on
pub first_met : (done : Result Unit Refusal) (refusal : Refusal) (a b : ℕ) → IsErrAnd done (λ e. e ≡ refusal) → number_of refusal ≡ a → answer_of done ≡ or_else a b
first_met done refusal a b h e = rw (passed_on done refusal h, ← e, has_number refusal)

-- the number of what comes after
pub next_met : (n a b : ℕ) → 0 ≡ a → n ≡ b → n ≡ or_else a b
next_met n a b z e = rw (← z) e
