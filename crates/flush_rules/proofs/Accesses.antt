-- Accesses of two units that differ in alike directories only: every doubleword does the same but for its change of the directory, and their directories
-- are alike again.
use Rattle.std.specs.Prelude.{Option, Some, None}
use Prim.Native.Nat.{ℕ, ◌+◌, ◌-◌, ◌<◌}
use mathlib.Core.Path.{◌≡◌, refl, sym, ap, subst}
use mathlib.Core.Bool.{Bool, not, ◌&&◌}
use mathlib.Core.List.{List, [], ◌∷◌}
use native.Mathlib.Omega.{arith}
use lib.ListN.{length}
use Rattle.laws.proofs.Tests.{by_test}
use Rattle.ways.specs.Address.{set_of, tag_of}
use Rattle.ways.proofs.FourWays.{victim_below}
use Rattle.directory.specs.declared.steps.Directory.{Directory}
use Rattle.ranges.specs.Ranges.{Range}
use Rattle.directory.specs.Steps.{lookup_of}
use Rattle.directory.specs.Alike.{Alike}
use Rattle.directory.proofs.Laws.{lookup_at}
use Rattle.directory.proofs.Alike.{alike_lookup, alike_control, alike_victim, alike_number, use_alike, fill_alike, snoop_alike}
use Rattle.carried.specs.Carried.{Carried, due}
use Rattle.doubleword.specs.declared.change.Change.{Change}
use Rattle.doubleword.specs.declared.change.Change.TheVariants.{Unchanged, Use, Fill}
use Rattle.doubleword.specs.Doubleword.{Doubleword, Done, changed}
use Rattle.doubleword.specs.DoublewordCode.{BelowFour}
use Rattle.reading.specs.Reading.{kept_change, read_hit, read_miss, settled, read_done}
use Rattle.writing.specs.Writing.{write_through, write_done}
use Rattle.refusal.specs.Call.{State, state}
use Rattle.refusal.specs.Refusal.{states_number_in, states_number_of, carried_states_number_in, carried_states_number}
use Rattle.access.specs.Access.{Progress, progress, then_rest, write_one, next, all_of, UnderWay, under_way, snooped_by, read_one, read_next, landed_after, read_each}

-- the unit with another directory
abbrev pub with_directory : Directory → State → State
with_directory e s = state e s.memory s.array

-- NUMBERS

module _ (d e : Directory) (a : Alike d e) where
  pub states_same : (address count : ℕ) → states_number_of e address count ≡ states_number_of d address count
  unfolding states_number_in
  states_same address count =
      rw (alike_number d e a (set_of address) (omega arith), alike_number d e a (set_of (address + count - 1)) (omega arith))

  pub carried_same : (ws : List Carried) → carried_states_number e ws ≡ carried_states_number d ws
  unfolding carried_states_number_in
  carried_same [] = refl
  carried_same (w ∷ ws) = rw (states_same w.address (length w.bytes), carried_same ws)

-- DIRECTORIES

-- a doubleword's change, and the snoops of writes that landed
change_alike : (d e : Directory) → Alike d e → (line : ℕ) (change : Change) → BelowFour change → Alike (changed d line change) (changed e line change)
unfolding changed
change_alike d e a line Unchanged b = a
change_alike d e a line (Use way) b = use_alike d e a (set_of line) way (omega arith) b
change_alike d e a line (Fill way) b = fill_alike d e a (set_of line) way (omega arith) b (tag_of line)

snooped_alike : (ws : List Carried) (d e : Directory) → Alike d e → Alike (snooped_by ws d) (snooped_by ws e)
unfolding snooped_by
snooped_alike [] d e a = a
snooped_alike (w ∷ ws) d e a = snooped_alike ws _ _ (snoop_alike d e a w.address)

-- the same progress, but for an alike directory
pub record ProgressAlike (p q : Progress) : Type 0 where
  pub directory : Directory
  pub same : q ≡ progress (with_directory directory p.state) p.bytes p.records
  pub alike : Alike p.state.directory directory

then_alike : (here : Done) (p q : Progress) → ProgressAlike p q → ProgressAlike (then_rest here p) (then_rest here q)
then_alike here p q r = record { directory = r.directory; same = ap (then_rest here) r.same; alike = r.alike }

-- A READ

-- a read under way with another directory
abbrev other_unit : Directory → UnderWay → UnderWay
other_unit e u = under_way (with_directory e u.unit) u.writes u.cycle

kept_below : (kept : Bool) (victim : ℕ) → victim < 4 → BelowFour (kept_change kept victim)
kept_below kept victim l = by_test (λ b. BelowFour (kept_change b victim)) kept (λ _. l) (λ _. tt)

module _ (pcd : Bool) (rom : List Range) (u : UnderWay) (w : Doubleword) where
  abbrev d : Directory
  d = u.unit.directory

  abbrev here : Done
  here = read_one pcd rom u w

  -- its change names a way below 4
  found_below : (mayFill : Bool) (victim : ℕ) → victim < 4 → (f : Option ℕ) → lookup_of d w.line ≡ f →
      BelowFour (read_done f victim mayFill rom u.unit.memory u.writes u.cycle u.unit.array w).change
  unfolding read_done read_hit settled
  found_below mayFill victim l (Some way) q = (lookup_at d w.line way q).0
  found_below mayFill victim l None q = kept_below (read_miss mayFill rom u.unit.memory u.writes u.cycle w).kept victim l

  read_below : BelowFour here.change
  unfolding read_one
  read_below = found_below _ _ (victim_below _ _ _) (lookup_of d w.line) refl

  module _ (e : Directory) (a : Alike d e) where
    -- either unit's doubleword finds, brings and asks for the same, the victim after the snoops of what landed
    one_same : read_one pcd rom (other_unit e u) w ≡ here
    unfolding read_one
    one_same =
        let n = length (read_miss (not e.cd && not pcd) rom u.unit.memory u.writes u.cycle w).records in
        let landed = snooped_alike (due (u.cycle + n) u.writes) d e a in
        rw (alike_victim _ _ landed (set_of w.line) (omega arith), alike_lookup d e a w.line, (alike_control d e a).0)

    next_alike : Alike (read_next u w here).unit.directory (read_next (other_unit e u) w here).unit.directory
    next_alike =
        let landed = snooped_alike (due (u.cycle + length here.records) u.writes) d e a in
        change_alike _ _ landed w.line here.change read_below

-- all its doublewords, and what is left of the writes after them
pub each_alike : (pcd : Bool) (rom : List Range) (ws : List Doubleword) (u : UnderWay) (e : Directory) → Alike u.unit.directory e → ProgressAlike (read_each pcd rom u ws) (read_each pcd rom (other_unit e u) ws)
unfolding read_each landed_after
each_alike pcd rom [] u e a = record { directory = snooped_by u.writes e; same = refl; alike = snooped_alike u.writes _ e a }
each_alike pcd rom (w ∷ ws) u e a =
    let here = read_one pcd rom u w in
    let v = other_unit e u in
    subst (λ (x : Done). ProgressAlike (then_rest here (read_each pcd rom (read_next u w here) ws)) (then_rest x (read_each pcd rom (read_next v w x) ws))) (sym (one_same pcd rom u w e a))
    (then_alike here _ _ (each_alike pcd rom ws (read_next u w here) (read_next v w here).unit.directory (next_alike pcd rom u w e a)))

-- A WRITE

module _ (rom : List Range) (operand : List ℕ) (s : State) (w : Doubleword) where
  abbrev given : Directory
  given = s.directory

  -- likewise
  write_found_below : (stays : Bool) (f : Option ℕ) → lookup_of given w.line ≡ f → BelowFour (write_done f stays rom s.memory s.array operand w).change
  unfolding write_done write_through
  write_found_below stays (Some way) q =
      let l = (lookup_at given w.line way q).0 in
      by_test (λ b. BelowFour (write_done (Some way) b rom s.memory s.array operand w).change) stays (λ _. l) (λ _. l)
  write_found_below stays None q = tt

  write_below : BelowFour (write_one rom operand s w).change
  unfolding write_one
  write_below = write_found_below _ (lookup_of given w.line) refl

  write_same : (e : Directory) → Alike given e → write_one rom operand (with_directory e s) w ≡ write_one rom operand s w
  unfolding write_one
  write_same e a = let c = alike_control given e a in rw (c.0, c.1, alike_lookup given e a w.line)

pub all_alike : (rom : List Range) (operand : List ℕ) (ws : List Doubleword) (s : State) (e : Directory) → Alike s.directory e → ProgressAlike (all_of (write_one rom operand) s ws) (all_of (write_one rom operand) (with_directory e s) ws)
unfolding all_of
all_alike rom operand [] s e a = record { directory = e; same = refl; alike = a }
all_alike rom operand (w ∷ ws) s e a =
    let one = write_one rom operand in
    let here = one s w in
    let t = with_directory e s in
    let changes = change_alike s.directory e a w.line here.change (write_below rom operand s w) in
    subst (λ (x : Done). ProgressAlike (then_rest here (all_of one (next s w here) ws)) (then_rest x (all_of one (next t w x) ws))) (sym (write_same rom operand s w e a))
    (then_alike here _ _ (all_alike rom operand ws (next s w here) (changed e w.line here.change) changes))
