-- A carried write that lands puts its bytes into memory, but for read-only ranges, and snoops, as an external write does.
use Rattle.std.specs.Prelude.{None}
use Prim.Native.Nat.{ℕ, ◌+◌}
use mathlib.Core.Path.{◌≡◌, refl, sym, ◌∙◌, ap}
use mathlib.Core.Bool.{Bool, true, false, cond, not, ◌&&◌, ◌||◌}
use mathlib.Core.List.{List, [], ◌∷◌}
use native.Mathlib.Omega.{arith}
use native.Mathlib.Nat.{add-zero}
use lib.Dec.{eqb, ltb}
use lib.ListN.{length, get_or}
use borrow.Author.Tests.{eqb-true, not-false}
use Rattle.laws.proofs.Tests.{by_test, neither}
use Rattle.ways.specs.Address.{set_of}
use Rattle.ranges.specs.Ranges.{Range}
use Rattle.directory.specs.declared.steps.Directory.{Directory}
use Rattle.directory.specs.Steps.{lookup_of, victim_of, after_snoop}
use Rattle.memory.specs.Parity.{written}
use Rattle.carried.specs.Carried.{Carried, due, landed, taken}
use Rattle.carried.proofs.Taken.{WithinLines, later_lines, taken_due, taken_later, taken_landed}
use Rattle.bus.specs.Bus.{ken}
use Rattle.doubleword.specs.declared.change.Change.TheVariants.{Unchanged}
use Rattle.doubleword.specs.Doubleword.{Doubleword, Done}
use Rattle.reading.specs.Reading.{spoiled, fill_miss, plain_miss, read_miss, kept_change, kept_array, settled, read_done}
use Rattle.reading.proofs.Taken.{miss_taken, done_taken}
use Rattle.refusal.specs.Refusal.{external_number, in_order, any_refused, carried_number}
use Rattle.refusal.specs.Call.{State, state}
use Rattle.refusal.proofs.Accepted.{when_zero, external_accepted}
use Rattle.access.specs.Access.{then_rest, UnderWay, under_way, snooped_by, directory_after, read_one, read_next, landed_after, read_each}

-- the state after one
abbrev pub landed_one : List Range → State → Carried → State
landed_one rs s w = state (after_snoop s.directory w.address) (written rs s.memory w.address w.bytes) s.array

pub landed_first : (rs : List Range) (s : State) (w : Carried) (ws : List Carried) (n : ℕ) → landed_after rs (under_way s (w ∷ ws) n) ≡ landed_after rs (under_way (landed_one rs s w) ws n)
unfolding landed_after snooped_by landed
landed_first rs s w ws n = refl

-- where none is due, none has snooped before a lookup
pub none_snooped : (u : UnderWay) → due u.cycle u.writes ≡ [] → directory_after u 0 ≡ u.unit.directory
unfolding snooped_by
none_snooped u e = rw (add-zero u.cycle, e)

-- a fill that a later write spoils changes neither directory nor data array: "with NW = 1 too"
module _ (pcd : Bool) (rs : List Range) (u : UnderWay) (w : Doubleword) (missed : lookup_of u.unit.directory w.line ≡ None) (h : spoiled u.writes u.cycle w ≡ true) where
  pub spoiled_dropped : ((read_one pcd rs u w).change ≡ Unchanged) × ((read_one pcd rs u w).array ≡ u.unit.array)
  unfolding read_one read_done settled read_miss fill_miss plain_miss
  spoiled_dropped =
      let d = u.unit.directory in
      rw missed
      (by_test
      (λ t.
      let kept = (cond t (fill_miss rs u.unit.memory u.writes u.cycle w) (plain_miss rs u.unit.memory u.writes u.cycle w)).kept in
      (victim : ℕ) (buffer : List ℕ) → (kept_change kept victim ≡ Unchanged) × (kept_array kept victim w.line buffer u.unit.array ≡ u.unit.array))
      ((not d.cd && not pcd) && ken (get_or w.answers 0 0))
      (λ _ victim buffer. rw h (refl, refl))
      (λ _ victim buffer. (refl, refl))
      _
      _)

-- where 33 is not met each write lies in one line
none_refused : (ram : ℕ) (ws : List Carried) → any_refused ram ws ≡ false → WithinLines ws
unfolding WithinLines any_refused
none_refused ram [] e = tt
none_refused ram (w ∷ ws) e =
    let number = external_number ram w.address (length w.bytes) in
    let p = neither (not (eqb number 0)) (any_refused ram ws) e in
    ((external_accepted ram w.address (length w.bytes) (eqb-true number 0 (not-false _ p.0))).line, none_refused ram ws p.1)

pub carried_lines : (ram : ℕ) (ws : List Carried) → carried_number ram ws ≡ 0 → WithinLines ws
unfolding carried_number
carried_lines ram ws e = none_refused ram ws (neither (ltb 4 (length ws) || not (in_order ws)) (any_refused ram ws) (when_zero _ 33 (omega arith) e)).1

-- a read by the bytes that RAM takes of the writes, with no range: snoops ask addresses alone
module _ (rs : List Range) where
  snooped_taken : (ws : List Carried) (d : Directory) → snooped_by (taken rs ws) d ≡ snooped_by ws d
  unfolding snooped_by taken
  snooped_taken [] d = refl
  snooped_taken (w ∷ ws) d = snooped_taken ws (after_snoop d w.address)

  module _ (s : State) (ws : List Carried) (n : ℕ) (h : WithinLines ws) where
    abbrev with_ranges_lem : UnderWay
    with_ranges_lem = under_way s ws n

    abbrev with_taken : UnderWay
    with_taken = under_way s (taken rs ws) n

    directory_taken : (cycles : ℕ) → directory_after with_ranges_lem cycles ≡ directory_after with_taken cycles
    directory_taken cycles = sym (ap (λ (l : List Carried). snooped_by l s.directory) (taken_due rs (n + cycles) ws) ∙ snooped_taken (due (n + cycles) ws) s.directory)

    after_taken : landed_after rs with_ranges_lem ≡ landed_after [] with_taken
    unfolding landed_after
    after_taken = rw (snooped_taken ws s.directory, taken_landed rs ws s.memory h)

    module _ (pcd : Bool) (w : Doubleword) where
      one_taken : read_one pcd rs with_ranges_lem w ≡ read_one pcd [] with_taken w
      unfolding read_one
      one_taken =
          let mayFill = not s.directory.cd && not pcd in
          let cycles = length (read_miss mayFill [] s.memory (taken rs ws) n w).records in
          rw (miss_taken rs s.memory ws h n w mayFill, directory_taken cycles)
          (done_taken rs s.memory ws h n w (lookup_of s.directory w.line) (victim_of (directory_after with_taken cycles) (set_of w.line)) mayFill s.array)

      next_taken : (done : Done) →
          read_next with_taken w done
          ≡ under_way (read_next with_ranges_lem w done).unit (taken rs (read_next with_ranges_lem w done).writes) (n + length done.records)
      next_taken done =
          let k = length done.records in
          rw (directory_taken k, taken_later rs (n + k) ws)

  pub each_taken : (pcd : Bool) (s : State) (ws : List Carried) (n : ℕ) → WithinLines ws → (dws : List Doubleword) → read_each pcd rs (under_way s ws n) dws ≡ read_each pcd [] (under_way s (taken rs ws) n) dws
  unfolding read_each
  each_taken pcd s ws n h [] = rw (after_taken s ws n h)
  each_taken pcd s ws n h (w ∷ dws) =
      let done = read_one pcd [] (under_way s (taken rs ws) n) w in
      let next = read_next (under_way s ws n) w done in
      rw (one_taken s ws n h pcd w)
      (ap (then_rest done) (each_taken pcd next.unit next.writes next.cycle (later_lines (n + length done.records) ws h) dws ∙ ap (λ (u : UnderWay). read_each pcd [] u dws) (sym (next_taken s ws n h pcd w done))))
