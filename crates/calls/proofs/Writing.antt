-- Writes keep the invariant beside the plain memory with their bytes put in.
use Rattle.std.specs.Prelude.{Option, Some, None}
use Prim.Native.Nat.{ℕ, ◌+◌, ◌/◌, ◌%◌, ◌≤◌}
use mathlib.Core.Path.{◌≡◌, refl, ◌∙◌}
use mathlib.Core.Bool.{false, cond, ◌&&◌}
use mathlib.Core.List.{List, [], ◌∷◌, map}
use native.Mathlib.Omega.{arith}
use lib.ListN.{length}
use lib.Seq.{sets}
use Rattle.laws.proofs.Tests.{both, by_test}
use Rattle.directory.specs.declared.steps.Directory.{Directory}
use Rattle.ways.specs.Address.{set_of, tag_of, data_offset}
use Rattle.ranges.specs.Ranges.{Range, read_only}
use Rattle.ranges.proofs.Laws.{same_line}
use Rattle.directory.specs.Steps.{lookup_of, after_use}
use Rattle.directory.proofs.Laws.{lookup_at, lookup_nothing, use_kept}
use Rattle.bus.specs.Record.{write_record}
use Rattle.doubleword.specs.declared.change.Change.TheVariants.{Unchanged, Use}
use Rattle.doubleword.specs.Doubleword.{Doubleword, Done, changed, plain_cycles}
use Rattle.writing.specs.Writing.{write_buffer, write_through, hit_array, write_done}
use Rattle.refusal.specs.Call.{State, state}
use Rattle.access.specs.Access.{Progress, write_one, next, all_of}
use Rattle.calls.proofs.Cycles.{NoParityErrors, no_error_append, no_error_writes, cycles_within}
use Rattle.calls.proofs.Doublewords.{Proper, EachProper, given_of, given_in_line, given_written, memory_written, all_written}
use Rattle.calls.proofs.Kept.{write_one_kept}
use Rattle.calls.proofs.Coherence.{Beside, Coherent, kept_in, beside_written, line_set, line_tag, line_back, replaced_miss, stored_hit}
use Rattle.calls.proofs.Replaced.{replaced_taken, replaced_length}
use Rattle.calls.proofs.Reading.{use_beside}

-- what a doubleword of a write leaves
record WriteMatches (rom : List Range) (s : State) (m : List ℕ) (w : Doubleword) (done : Done) : Type 0 where
  pub beside : Beside rom (next s w done) m
  pub no_error : NoParityErrors done.records

module _ (rom : List Range) (operand : List ℕ) (s : State) (m : List ℕ) (c : Coherent rom s m) (w : Doubleword) (ok : Proper (length m) w) where
  abbrev d : Directory
  d = s.directory

  abbrev x : List ℕ
  x = given_of operand w

  abbrev b : Beside rom s m
  b = c.beside

  in_line_lem : w.wanted.from + length x ≤ 16
  in_line_lem = given_in_line operand (length m) w ok

  in_own_line : (w.line + w.wanted.from) % 16 + length x ≤ 16
  in_own_line = let e : (w.line + w.wanted.from) % 16 ≤ w.wanted.from = omega (arith, ok.aligned) in omega (arith, in_line_lem)

  -- a held line lies in no range
  hit_writable : (way : ℕ) → lookup_of d w.line ≡ Some way → read_only rom (w.line + w.wanted.from) ≡ false
  hit_writable way e =
      let h = lookup_at d w.line way e in
      let own : (w.line + w.wanted.from) / 16 ≡ w.line / 16 = omega (arith, ok.aligned, ok.within.line, ok.within.some) in
      same_line rom (w.line + w.wanted.from) w.line own
      ∙ rw (line_back w.line ok.aligned) at (b.outside (set_of w.line) way (tag_of w.line) (omega arith) h.0 h.1)

  own_no_error : NoParityErrors (map (write_record (write_buffer operand w) w.line) (plain_cycles w))
  own_no_error = no_error_writes (write_buffer operand w) w.line (plain_cycles w) (cycles_within w.answers (w.wanted ∷ []) (ok.within, tt))

  write_miss : lookup_of d w.line ≡ None → WriteMatches rom s (memory_written rom operand m w) w (write_through Unchanged rom s.memory s.array operand w)
  unfolding write_through changed
  write_miss e =
      let none = lookup_nothing d w.line e in
      record {
        beside = rw (given_written operand (length m) w ok rom s.memory) (beside_written rom s m b (w.line + w.wanted.from) x s.array
            (replaced_miss d m s.array b.lines w.line w.wanted.from x ok.aligned in_line_lem rom
            (λ r v tag rl vl h q. none v vl (rw (line_set r tag w.line rl q, line_tag r tag w.line rl q) at h))));
        no_error = own_no_error;
      }

  write_hit : (way : ℕ) → lookup_of d w.line ≡ Some way → WriteMatches rom s (memory_written rom operand m w) w (write_through (Use way) rom s.memory (hit_array way s.array operand w) operand w)
  unfolding write_through hit_array changed
  write_hit way e =
      let h = lookup_at d w.line way e in
      let used = state (after_use d (set_of w.line) way) s.memory s.array in
      let u = use_beside rom s m b (set_of w.line) way in
      record {
        beside = rw (given_written operand (length m) w ok rom s.memory) (beside_written rom used m u (w.line + w.wanted.from) x
            (sets s.array (data_offset w.line way + w.wanted.from) x)
            (rw (replaced_taken rom m (w.line + w.wanted.from) x in_own_line (hit_writable way e))
            (stored_hit used.directory m s.array u.lines w.line w.wanted.from x ok.aligned in_line_lem u.apart c.kept.array_length ok.inside way h.0
            (use_kept d (set_of w.line) way (set_of w.line) way _ h.1))));
        no_error = own_no_error;
      }

  write_found : (f : Option ℕ) → lookup_of d w.line ≡ f → WriteMatches rom s (memory_written rom operand m w) w (write_done f (d.cd && d.nw) rom s.memory s.array operand w)
  unfolding write_done
  write_found (Some way) e =
      let k = lookup_at d w.line way e in
      by_test (λ stays. (d.cd && d.nw) ≡ stays → WriteMatches rom s (memory_written rom operand m w) w (cond stays (record { change = Use way; memory = s.memory; array = hit_array way s.array operand w; bytes = []; records = [] }) (write_through (Use way) rom s.memory (hit_array way s.array operand w) operand w)))
      (d.cd && d.nw)
      (λ _ h. absurd (b.nw (both d.cd d.nw h).1 (set_of w.line) way _ (omega arith) k.0 k.1))
      (λ _ _. write_hit way e)
      refl
  write_found None e = write_miss e

  write_one_lem : WriteMatches rom s (memory_written rom operand m w) w (write_one rom operand s w)
  unfolding write_one
  write_one_lem = write_found (lookup_of d w.line) refl

-- what a whole write leaves
pub record WritesMatch (rom : List Range) (m : List ℕ) (p : Progress) : Type 0 where
  pub beside : Beside rom p.state m
  pub no_error : NoParityErrors p.records

pub write_all_lem : (rom : List Range) (operand : List ℕ) (ws : List Doubleword) (s : State) (m : List ℕ) → Coherent rom s m → EachProper (length m) ws →
    WritesMatch rom (all_written rom operand m ws) (all_of (write_one rom operand) s ws)
unfolding all_of
write_all_lem rom operand [] s m c g = record { beside = c.beside; no_error = tt }
write_all_lem rom operand (w ∷ ws) s m c g =
    let h = write_one_lem rom operand s m c w g.0 in
    let k = (write_one_kept (length m) s (kept_in rom s m c) w g.0 rom operand).kept in
    let e = replaced_length rom m (w.line + w.wanted.from) (given_of operand w) in
    let r = write_all_lem rom operand ws (next s w (write_one rom operand s w)) (memory_written rom operand m w) (record { kept = k; beside = h.beside }) (rw e g.1) in
    record { beside = r.beside; no_error = no_error_append (write_one rom operand s w).records _ h.no_error r.no_error }
