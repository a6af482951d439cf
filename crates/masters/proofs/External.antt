-- An external write as a whole: refused or done, by its number.
use Prim.Native.Nat.{ℕ}
use mathlib.Core.Path.{◌≡◌, sym, ◌∙◌, ap}
use mathlib.Core.List.{List, []}
use lib.ListN.{length}
use borrow.Author.Tests.{eq-eqb, ne_eqb}
use Rattle.laws.proofs.Tests.{cond_true, cond_false}
use Rattle.numbers.specs.declared.Refusal.{Refusal}
use Rattle.numbers.specs.Numbers.{number_of}
use Rattle.numbers.proofs.Refused.{has_number}
use Rattle.directory.specs.declared.steps.Directory.{Directory}
use Rattle.directory.specs.Outcome.{outcome}
use Rattle.directory.specs.Steps.{ranges_kept, after_snoop}
use Rattle.memory.specs.Parity.{Memory, written}
use Rattle.refusal.specs.Call.{State, after, refused}
use Rattle.refusal.specs.Refusal.{or_else, memory_number, external_number, kept_number, states_number_of}
use Rattle.refusal.proofs.Accepted.{or_zero, GoodMemory, GoodExternal, memory_accepted, external_accepted}
use Rattle.masters.specs.Masters.{external_write_number, external_call}

module _ (s : State) (address : ℕ) (bytes : List ℕ) where
  abbrev d : Directory
  d = s.directory

  abbrev m : Memory
  m = s.memory

  pub external_refused : (n : ℕ) → external_write_number d m address bytes ≡ n → (n ≡ 0 → ⊥) → external_call s address bytes ≡ refused n s []
  unfolding external_call
  external_refused n e h = rw e (cond_false _ _ _ (ne_eqb n 0 h))

  pub external_done : external_write_number d m address bytes ≡ 0 → external_call s address bytes ≡ after (outcome (after_snoop d address) 0 0 0) (written (ranges_kept d) m address bytes) s.array []
  unfolding external_call
  external_done e = cond_true _ _ _ (eq-eqb _ 0 e)

  -- the same by the number that the code has
  abbrev asked : ℕ
  asked =
      or_else (memory_number (length m.ram) (length m.parity))
      (or_else (external_number (length m.ram) address (length bytes)) (or_else (kept_number (length m.ram) d.ranges) (states_number_of d address (length bytes))))

  pub refused_by : (refusal : Refusal) → number_of refusal ≡ asked → refused (number_of refusal) s [] ≡ external_call s address bytes
  unfolding external_call external_write_number
  refused_by refusal e = rw (← e, has_number refusal)

  pub done_by : 0 ≡ asked → (d' : Directory) (m' : Memory) → d' ≡ after_snoop d address → m' ≡ written (ranges_kept d) m address bytes →
      after (outcome d' 0 0 0) m' s.array [] ≡ external_call s address bytes
  unfolding external_write_number
  done_by z d' m' ed em =
      ap (λ (x : Directory). after (outcome x 0 0 0) m' s.array []) ed
      ∙ ap (λ (x : Memory). after (outcome (after_snoop d address) 0 0 0) x s.array []) em
      ∙ sym (external_done (sym z))

-- number 0: the lengths and the place are right
pub placed_by : (ram parity address count later : ℕ) → 0 ≡ or_else (memory_number ram parity) (or_else (external_number ram address count) later) →
    GoodMemory ram parity × GoodExternal ram address count
placed_by ram parity address count later z =
    let p = or_zero (memory_number ram parity) (or_else (external_number ram address count) later) (sym z) in
    (memory_accepted ram parity p.0, external_accepted ram address count (or_zero (external_number ram address count) later p.1).0)
