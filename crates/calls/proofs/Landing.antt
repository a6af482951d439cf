-- What lands during a read: as many external writes, each of which keeps the invariant. Those that lie in other lines leave the bytes of a line.
use Rattle.std.specs.Prelude.{None}
use Prim.Native.Nat.{ℕ, suc, ◌+◌, ◌*◌, ◌/◌, ◌%◌, ◌≤◌, ◌<◌}
use mathlib.Core.Path.{◌≡◌, refl, sym, ◌∙◌, ap}
use mathlib.Core.Bool.{false}
use mathlib.Core.List.{List, [], ◌∷◌}
use native.Mathlib.Omega.{arith}
use lib.Dec.{eqb}
use lib.ListN.{length, get_or}
use lib.Seq.{sets}
use borrow.Author.Tests.{eqb-false}
use Rattle.laws.proofs.Tests.{neither}
use Rattle.ways.specs.Address.{set_of, tag_of}
use Rattle.directory.specs.declared.steps.Directory.{Directory}
use Rattle.ranges.specs.Ranges.{Range}
use Rattle.directory.specs.Steps.{ranges_kept, lookup_of, after_snoop}
use Rattle.directory.specs.WellFormed.{Held, WithinLimits}
use Rattle.directory.proofs.Laws.{lookup_nothing, none_lookup, snoop_held, snoop_control, snoop_limits}
use Rattle.words.specs.Bytes.{bytes_at}
use Rattle.words.proofs.Spans.{bytes_same}
use Rattle.memory.specs.Parity.{Memory, written}
use Rattle.carried.specs.Carried.{Carried, due, later, landed, memory_at, in_line}
use Rattle.carried.proofs.Due.{landed_then, in_line_then}
use Rattle.bus.specs.Bus.{Cycle, after_cycles, buffer_after}
use Rattle.reading.specs.Reading.{buffer_of}
use Rattle.refusal.specs.Call.{State, next_state}
use Rattle.masters.specs.Masters.{external_write_number}
use Rattle.masters.proofs.External.{external_done}
use Rattle.access.specs.Access.{under_way, snooped_by, landed_after}
use Rattle.access.proofs.Landing.{landed_one, landed_first}
use Rattle.calls.specs.Calls.{external, step, step_by}
use Rattle.calls.specs.Plain.{replaced, held_at_end}
use Rattle.calls.proofs.Memories.{written_ram}
use Rattle.calls.proofs.Replaced.{replaced_length, by_range}
use Rattle.calls.proofs.Carrying.{EachGood, due_good, later_good}
use Rattle.calls.proofs.Cycles.{EachCycle}
use Rattle.calls.proofs.Kept.{landed_kept}
use Rattle.calls.proofs.Coherence.{Coherent, other_line}
use Rattle.calls.proofs.Snooping.{external_beside}

-- one that lands does what an external write does that is accepted
pub landed_external : (s : State) (w : Carried) (ws : List Carried) (n : ℕ) → let rom = ranges_kept s.directory in external_write_number s.directory s.memory w.address w.bytes ≡ 0 →
    landed_after rom (under_way s (w ∷ ws) n) ≡ landed_after rom (under_way (next_state (step s (external w.address w.bytes))) ws n)
unfolding step_by
landed_external s w ws n z = rw (external_done s w.address w.bytes z) (landed_first (ranges_kept s.directory) s w ws n)

-- beside the plain memory with the same writes put in
pub landing_coherent : (rom : List Range) (n : ℕ) (ws : List Carried) (s : State) (m : List ℕ) → Coherent rom s m → EachGood (length m) ws → Coherent rom (landed_after rom (under_way s ws n)) (held_at_end rom m ws)
unfolding landed_after snooped_by landed held_at_end
landing_coherent rom n [] s m c g = c
landing_coherent rom n (w ∷ ws) s m c g =
    let e = c.beside.rams in
    landing_coherent rom n ws (landed_one rom s w) (replaced rom m w.address w.bytes)
    (record {
      kept = landed_kept s c.kept rom w (rw e g.0);
      beside = external_beside rom s m c w.address w.bytes g.0;
    })
    (rw (replaced_length rom m w.address w.bytes) g.1)

-- their snoops hold no line that was not held, and leave CD
module _ (r v t : ℕ) (vl : v < 4) where
  snooped_held : (ws : List Carried) (d : Directory) → WithinLimits d → Held (snooped_by ws d) r v t → Held d r v t
  unfolding snooped_by
  snooped_held [] d g h = h
  snooped_held (w ∷ ws) d g h =
      snoop_held d g.sized w.address r v t vl (snooped_held ws (after_snoop d w.address) (snoop_limits d g w.address) h)

pub snooped_missing : (ws : List Carried) (d : Directory) → WithinLimits d → (a : ℕ) → lookup_of d a ≡ None → lookup_of (snooped_by ws d) a ≡ None
snooped_missing ws d g a e =
    none_lookup (snooped_by ws d) a (λ v vl h. lookup_nothing d a e v vl (snooped_held (set_of a) v (tag_of a) vl ws d g h))

pub snooped_cd : (ws : List Carried) (d : Directory) → WithinLimits d → (snooped_by ws d).cd ≡ d.cd
unfolding snooped_by
snooped_cd [] d g = refl
snooped_cd (w ∷ ws) d g =
    snooped_cd ws (after_snoop d w.address) (snoop_limits d g w.address) ∙ (snoop_control d g.sized w.address).0

-- THE LINE BEING FILLED

module _ (rom : List Range) (size line : ℕ) (al : line % 16 ≡ 0) where
  landed_line : (ws : List Carried) → EachGood size ws → in_line line ws ≡ false → (m : Memory) (o : ℕ) → o < 16 →
      get_or (landed rom ws m).ram (line + o) 0 ≡ get_or m.ram (line + o) 0
  unfolding landed in_line
  landed_line [] g h m o l = refl
  landed_line (w ∷ ws) g h m o l =
      let a = w.address in
      let p = neither (eqb (a / 16 * 16) line) (in_line line ws) h in
      let e : a / 16 * 16 + a % 16 ≡ a = omega arith in
      landed_line ws g.1 p.1 (written rom m a w.bytes) o l
      ∙ ap (λ (z : List ℕ). get_or z (line + o) 0) (written_ram rom m a w.bytes)
      ∙ by_range rom (λ (z : List ℕ). get_or z (line + o) 0 ≡ get_or m.ram (line + o) 0) m.ram a w.bytes g.0.line
      (λ _. refl)
      (λ _. rw e at (other_line m.ram (a / 16 * 16) (a % 16) w.bytes line o (omega arith) al g.0.line l (λ q. eqb-false (a / 16 * 16) line p.0 (sym q))))

  module _ (ws : List Carried) (g : EachGood size ws) (m : Memory) (first end : ℕ) (h : in_line line (due end (later (suc first) ws)) ≡ false) where
    abbrev last : Memory
    last = landed rom (due end ws) m

    -- memory at a fill's cycles has the line that it has after the last of them
    same_line : (n : ℕ) → first ≤ n → n < end → (o : ℕ) → o < 16 → get_or (memory_at rom m ws n).ram (line + o) 0 ≡ get_or last.ram (line + o) 0
    same_line n p q o l =
        let rest = due end (later (suc n) ws) in
        sym (ap (λ (x : Memory). get_or x.ram (line + o) 0) (landed_then rom (suc n) end q ws m)
        ∙ landed_line rest (due_good size end (later (suc n) ws) (later_good size (suc n) ws g)) (in_line_then line (suc first) (suc n) end (omega arith) q ws h) (memory_at rom m ws n) o l)

    -- so the line buffer is as if memory had been so from the first
    pub last_buffer : (cs : List Cycle) → EachCycle cs → (n : ℕ) → first ≤ n → n + length cs ≤ end → (b : List ℕ) →
        buffer_of (memory_at rom m ws) line n cs b ≡ after_cycles (buffer_after last.ram line) cs b
    unfolding buffer_of after_cycles
    last_buffer [] k n p q b = refl
    last_buffer (c ∷ cs) k n p q b =
        let f = c.moved.from in
        let w = k.0.line in
        let e : bytes_at (memory_at rom m ws n).ram (line + f) c.moved.count ≡ bytes_at last.ram (line + f) c.moved.count =
        bytes_same (memory_at rom m ws n).ram last.ram (line + f) (line + f) c.moved.count (λ o ol.
        let x : line + f + o ≡ line + (f + o) = omega arith in
        rw x (same_line n p (omega arith) (f + o) (omega arith))) in
        last_buffer cs k.1 (suc n) (omega arith) (omega arith) _ ∙ ap (λ (x : List ℕ). after_cycles (buffer_after last.ram line) cs (sets b f x)) e
