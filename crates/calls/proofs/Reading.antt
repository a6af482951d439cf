-- Reads keep the invariant beside the plain memory with the writes that they carry, and give its bytes.
use Rattle.std.specs.Prelude.{Option, Some, None}
use Prim.Native.Nat.{ℕ, suc, ◌+◌, ◌*◌, ◌/◌, ◌≤◌, ◌<◌}
use mathlib.Core.Path.{◌≡◌, refl, sym, ◌∙◌, ap}
use mathlib.Core.Bool.{Bool, true, false, cond, not, ◌&&◌}
use mathlib.Core.List.{List, [], ◌∷◌, ◌++◌}
use mathlib.Core.Logic.{⊎_elim}
use native.Mathlib.Nat.{add-zero}
use native.Mathlib.Omega.{arith}
use lib.ListN.{length, get_or, replicate}
use lib.Seq.{sets}
use borrow.Author.Tests.{not-true}
use Rattle.laws.proofs.Tests.{both, refuted, differ, by_test}
use Rattle.directory.specs.declared.steps.Directory.{Directory}
use Rattle.ways.specs.Address.{set_of, tag_of, data_offset}
use Rattle.ranges.specs.Ranges.{Range, ranges_of, read_only}
use Rattle.directory.specs.Steps.{lookup_of, victim_of, after_use, after_fill}
use Rattle.ways.proofs.FourWays.{victim_below}
use Rattle.directory.proofs.Laws.{lookup_at, use_held, use_control, use_ranges, use_apart, fill_control, fill_ranges, fill_held, fill_address_apart}
use Rattle.words.specs.Bytes.{bytes_at}
use Rattle.words.proofs.Places.{bytes_at_lem, bytes_length}
use Rattle.memory.specs.Parity.{Memory}
use Rattle.carried.specs.Carried.{Carried, due, later, landed, memory_at}
use Rattle.carried.proofs.Due.{due_none, later_then}
use Rattle.bus.specs.Bus.{ken, Cycle, burst, last_answer, after_cycles}
use Rattle.bus.specs.Record.{Record, plain_kind, fill_kind}
use Rattle.doubleword.specs.Doubleword.{Doubleword, Done, changed, plain_cycles}
use Rattle.reading.specs.Reading.{Missed, buffer_of, records_of, fill_cycles, read_hit, plain_miss, spoiled, fill_miss, read_miss, kept_change, kept_array, settled, read_done}
use Rattle.refusal.specs.Call.{State, state}
use Rattle.access.specs.Access.{Progress, UnderWay, directory_after, read_one, read_next, landed_after, read_each}
use Rattle.access.proofs.Landing.{none_snooped}
use Rattle.cycles.proofs.Brought.{burst_each, fill_buffer, counted, fill_once, wanted_once}
use Rattle.calls.specs.Plain.{held_after, held_at_end, groups_of, named_by, byte_read, bytes_by}
use Rattle.calls.specs.Matches.{EachQuiet}
use Rattle.calls.proofs.Carrying.{EachGood, Ordered, due_good, later_good, held_more, held_rest, held_length, landed_ram}
use Rattle.calls.proofs.Cycles.{NoParityErrors, EachCycle, no_error_append, no_error_reads, cycles_within}
use Rattle.calls.proofs.Doublewords.{Proper, EachProper, own_address, in_own, all_by, Above, Ascending, bytes_by_at, above_same}
use Rattle.calls.proofs.Following.{ReadKind, Begins, FirstAbove, groups_first, byte_moved_lem, byte_hit, byte_own, byte_above, records_length, cycles_begin, burst_begins}
use Rattle.calls.proofs.Kept.{KeptIn, UnderKept, landing_kept, landed_during, read_one_kept}
use Rattle.calls.proofs.Coherence.{address_of, Beside, Coherent, kept_in, fewer_beside, line_back, held_bytes, filled_lines}
use Rattle.calls.proofs.Landing.{landing_coherent, snooped_missing, snooped_cd, last_buffer}

-- a use of a way
pub use_beside : (rom : List Range) (s : State) (m : List ℕ) → Beside rom s m → (r w : ℕ) → Beside rom (state (after_use s.directory r w) s.memory s.array) m
use_beside rom s m b r w =
    let d = s.directory in
    fewer_beside rom s m b (after_use d r w) (λ q v tag ql vl. use_held d r w q v tag) (use_control d r w).1 (use_ranges d r w) (use_apart d b.apart r w)

-- THE END OF A MISS

module _ (rom : List Range) (s : State) (m : List ℕ) (c : Coherent rom s m) (w : Doubleword) (ok : Proper (length m) w) (e : lookup_of s.directory w.line ≡ None) (buffer : List ℕ) where
  abbrev d : Directory
  d = s.directory

  abbrev b : Beside rom s m
  b = c.beside

  abbrev victim : ℕ
  victim = victim_of d (set_of w.line)

  -- a fill may be kept with CD = 0, so NW = 0, of a line in no range, and with the memory's line in its line buffer
  pub record MayKeep : Type 0 where
    pub enabled : d.cd ≡ false
    pub writable : read_only rom w.line ≡ false
    pub brought : (o : ℕ) → o < 16 → get_or buffer o 0 ≡ get_or m (w.line + o) 0

  fill_beside : MayKeep → Beside rom (state (after_fill d (set_of w.line) victim (tag_of w.line)) s.memory (sets s.array (data_offset w.line victim) (bytes_at buffer 0 16))) m
  fill_beside h =
      let z = c.kept.limits.sized in
      let way = victim_below d.valid d.lru (set_of w.line) in
      let control = fill_control d (set_of w.line) victim (tag_of w.line) in
      let never : (after_fill d (set_of w.line) victim (tag_of w.line)).nw ≡ true → ⊥ = λ n. differ (c.kept.control (sym control.1 ∙ n)) h.enabled in
      record {
        rams = b.rams;
        apart = fill_address_apart d w.line victim way z b.apart e;
        lines = filled_lines d z m s.array b.lines w.line victim ok.aligned ok.inside c.kept.array_length way (bytes_at buffer 0 16) (bytes_length buffer 0 16)
            (λ o l. bytes_at_lem buffer 0 16 o l ∙ h.brought (0 + o) (omega arith) ∙ ap (λ (i : ℕ). get_or m (w.line + i) 0) (omega arith));
        nw = λ n. absurd (never n);
        ranges = ap ranges_of (fill_ranges d (set_of w.line) victim (tag_of w.line)) ∙ b.ranges;
        outside = λ r v tag rl vl f.
            ⊎_elim
            (λ n. let at : address_of r tag ≡ w.line = rw (n.0.0, n.1) (line_back w.line ok.aligned) in rw at h.writable)
            (λ n. b.outside r v tag rl vl n.1)
            (fill_held d (set_of w.line) victim (tag_of w.line) z (omega arith) way r v tag vl f);
      }

  settled_beside : (kept : Bool) → (kept ≡ true → MayKeep) →
      Beside rom (state (changed d w.line (kept_change kept victim)) s.memory (kept_array kept victim w.line buffer s.array)) m
  unfolding changed
  settled_beside kept may =
      by_test (λ t. kept ≡ t → Beside rom (state (changed d w.line (kept_change t victim)) s.memory (kept_array t victim w.line buffer s.array)) m) kept
      (λ _ h. fill_beside (may h))
      (λ _ _. b)
      refl

-- A READ UNDER WAY

-- beside the plain memory of so many cycles, with the writes that are left then
pub record UnderBeside (rom : List Range) (m : List ℕ) (ws : List Carried) (u : UnderWay) : Type 0 where
  pub unit : Coherent rom u.unit (held_after rom m ws u.cycle)
  pub left : u.writes ≡ later u.cycle ws

-- what a doubleword leaves, and how the plain memory follows it
record ReadMatches (rom : List Range) (m : List ℕ) (ws : List Carried) (u : UnderWay) (w : Doubleword) (done : Done) : Type 0 where
  pub beside : Beside rom (read_next u w done).unit (held_after rom m ws (u.cycle + length done.records))
  pub gives : (more : List Record) → FirstAbove (own_address w) (groups_of more) →
      done.bytes ≡ bytes_by (byte_read rom m ws u.cycle (groups_of (done.records ++ more))) (w.line + w.wanted.from) w.wanted.count
  pub passes : (more : List Record) (x : ℕ) → own_address w < x / 4 * 4 →
      byte_read rom m ws u.cycle (groups_of (done.records ++ more)) x ≡ byte_read rom m ws (u.cycle + length done.records) (groups_of more) x
  pub named : (a : ℕ) → a < own_address w → (more : List Record) → FirstAbove a (groups_of more) → FirstAbove a (groups_of (done.records ++ more))
  pub no_error : NoParityErrors done.records

module _ (rom : List Range) (m : List ℕ) (ws : List Carried) (good : EachGood (length m) ws) (order : Ordered ws) where
  under_kept : (u : UnderWay) → UnderBeside rom m ws u → UnderKept (length m) u
  under_kept u k =
      let e = k.left in
      record {
        unit = rw (held_length rom m ws u.cycle) at (kept_in rom u.unit (held_after rom m ws u.cycle) k.unit);
        good = rw e (later_good (length m) u.cycle ws good);
        quiet = rw e (due_none u.cycle ws);
      }

  module _ (u : UnderWay) (k : UnderBeside rom m ws u) where
    -- what lands during so many cycles
    during_coherent : (n : ℕ) → Coherent rom (landed_during rom (length m) u (under_kept u k) n) (held_after rom m ws (u.cycle + n))
    during_coherent n =
        let x = due (u.cycle + n) u.writes in
        let e : held_at_end rom (held_after rom m ws u.cycle) x ≡ held_after rom m ws (u.cycle + n) =
        ap (λ (z : List Carried). held_at_end rom (held_after rom m ws u.cycle) (due (u.cycle + n) z)) k.left ∙ held_more rom m u.cycle (u.cycle + n) (omega arith) ws order in
        rw e at (landing_coherent rom n x u.unit (held_after rom m ws u.cycle) k.unit
        (rw (held_length rom m ws u.cycle) (due_good (length m) (u.cycle + n) u.writes (under_kept u k).good)))

    -- memory at its cycles
    abbrev at : ℕ → Memory
    at = memory_at rom u.unit.memory u.writes

    at_kept : (n : ℕ) → KeptIn (length m) (state u.unit.directory (at n) u.unit.array)
    unfolding landed_after
    at_kept n =
        let g = under_kept u k in
        let l = landing_kept rom (length m) n (due (suc n) u.writes) u.unit g.unit (due_good (length m) (suc n) u.writes g.good) in
        record {
          kept = record { limits = g.unit.kept.limits; control = g.unit.kept.control; lent = l.kept.lent; array_length = l.kept.array_length; ranges = rw (g.unit.ram_length ∙ sym l.ram_length) at g.unit.kept.ranges; agrees = l.kept.agrees };
          ram_length = l.ram_length;
        }

    at_held : (n : ℕ) → u.cycle ≤ n → (at n).ram ≡ held_after rom m ws (suc n)
    at_held n h =
        landed_ram rom (due (suc n) u.writes) u.unit.memory
        ∙ ap (λ (z : List ℕ). held_at_end rom z (due (suc n) u.writes)) k.unit.beside.rams
        ∙ ap (λ (z : List Carried). held_at_end rom (held_after rom m ws u.cycle) (due (suc n) z)) k.left
        ∙ held_more rom m u.cycle (suc n) (omega arith) ws order

    module _ (w : Doubleword) (ok : Proper (length m) w) where
      abbrev looked : Directory
      looked = u.unit.directory

      abbrev address : ℕ
      address = w.line + w.wanted.from

      read_hit_lem : (way : ℕ) → lookup_of looked w.line ≡ Some way → ReadMatches rom m ws u w (read_hit way u.unit.memory u.unit.array w)
      unfolding read_hit changed
      read_hit_lem way e =
          let h = lookup_at looked w.line way e in
          let held = held_after rom m ws u.cycle in
          let b = k.unit.beside in
          record {
            beside = rw (none_snooped u (under_kept u k).quiet, add-zero u.cycle) (use_beside rom u.unit held b (set_of w.line) way);
            gives = λ more z.
                held_bytes looked held u.unit.array b.lines w.line way ok.aligned h.0 h.1 w.wanted.from w.wanted.count ok.within.line
                ∙ bytes_by_at held _ address address w.wanted.count (λ o l. sym (byte_hit rom m ws u.cycle (address + o) (groups_of more) (rw (in_own (length m) w ok o l) z)));
            passes = λ more x l. rw (add-zero u.cycle);
            named = λ a l more z. z;
            no_error = tt;
          }

      -- a miss by its cycles
      module _ (e : lookup_of looked w.line ≡ None) (kind : ℕ) (q : ReadKind kind) (cs : List Cycle) (each : EachCycle cs) (f : ℕ) (begins : Begins f cs) (own : f / 4 ≡ w.wanted.from / 4) where
        abbrev records : List Record
        records = records_of kind at w.line u.cycle cs

        abbrev buffer : List ℕ
        buffer = buffer_of at w.line u.cycle cs (replicate 16 0)

        abbrev after : State
        after = landed_during rom (length m) u (under_kept u k) (length records)

        abbrev end : ℕ
        end = u.cycle + length records

        starts : named_by records ≡ own_address w
        starts = begins.starts kind at w.line u.cycle ∙ ap (λ (z : ℕ). w.line + z * 4) own

        groups : (more : List Record) → groups_of (records ++ more) ≡ records ∷ groups_of more
        groups more = groups_first kind q w.line ok.aligned at cs begins.ends each u.cycle more

        -- a wanted byte
        wanted_byte : (more : List Record) (o : ℕ) → o < w.wanted.count → after_cycles (counted (w.wanted.from + o)) cs 0 ≡ 1 →
            get_or buffer (w.wanted.from + o) 0 ≡ byte_read rom m ws u.cycle (groups_of (records ++ more)) (address + o)
        wanted_byte more o l once =
            let i = w.wanted.from + o in
            let x : w.line + (w.wanted.from + o) ≡ address + o = omega arith in
            let v = get_or (held_after rom m ws u.cycle) (address + o) 0 in
            (rw x at (byte_moved_lem kind q w.line ok.aligned at rom m ws i (omega (arith, ok.within.line)) cs each u.cycle at_held (replicate 16 0) refl v once))
            ∙ sym (byte_own rom m ws u.cycle (address + o) records (groups_of more) (starts ∙ sym (in_own (length m) w ok o l)))
            ∙ ap (λ (gs : List (List Record)). byte_read rom m ws u.cycle gs (address + o)) (sym (groups more))

        read_missed : (kept : Bool) → (kept ≡ true → (looked.cd ≡ false) × (read_only rom w.line ≡ false) × ((o : ℕ) → o < 16 → get_or buffer o 0 ≡ get_or after.memory.ram (w.line + o) 0)) →
            ((o : ℕ) → o < w.wanted.count → after_cycles (counted (w.wanted.from + o)) cs 0 ≡ 1) →
            ReadMatches rom m ws u w (settled (victim_of (directory_after u (length records)) (set_of w.line)) rom u.unit.memory u.writes u.cycle u.unit.array w
            (record { buffer = buffer; kept = kept; records = records }))
        unfolding settled landed_after
        read_missed kept may once =
            let c = during_coherent (length records) in
            let limits = k.unit.kept.limits in
            let x = due end u.writes in
            record {
              beside = settled_beside rom after (held_after rom m ws end) c w (rw (held_length rom m ws end) ok) (snooped_missing x looked limits w.line e) buffer kept (λ t.
                  record {
                    enabled = snooped_cd x looked limits ∙ (may t).0;
                    writable = (may t).1;
                    brought = λ o l. (may t).2 o l ∙ ap (λ (z : List ℕ). get_or z (w.line + o) 0) c.beside.rams;
                  });
              gives = λ more z. bytes_by_at buffer _ w.wanted.from address w.wanted.count (λ o l. wanted_byte more o l (once o l));
              passes = λ more y l.
                  ap (λ (gs : List (List Record)). byte_read rom m ws u.cycle gs y) (groups more) ∙ byte_above rom m ws u.cycle y records (groups_of more) (rw starts l);
              named = λ a l more z. rw (groups more, starts) l;
              no_error = no_error_reads kind q.most at (λ n. (at_kept n).kept.agrees) w.line (λ n. rw (at_kept n).ram_length ok.inside) cs each u.cycle;
            }

      -- what a doubleword leaves that missed
      abbrev Leaves : Missed → Type 0
      Leaves missed =
          ReadMatches rom m ws u w (settled (victim_of (directory_after u (length missed.records)) (set_of w.line)) rom u.unit.memory u.writes u.cycle u.unit.array w missed)

      read_plain : lookup_of looked w.line ≡ None → Leaves (plain_miss rom u.unit.memory u.writes u.cycle w)
      unfolding plain_miss
      read_plain e =
          let r = w.wanted in
          let g = ok.within in
          read_missed e plain_kind (record { whole = refl; most = omega arith }) (plain_cycles w) (cycles_within w.answers (r ∷ []) (g, tt)) r.from
          (cycles_begin w.answers r [] (g, tt) (let a = ok.enough in let b = g.line in omega arith)) refl false (λ h. absurd (differ h refl))
          (λ o l. wanted_once r g w.answers ok.enough (r.from + o) (omega arith) (omega arith))

      read_fill : lookup_of looked w.line ≡ None → looked.cd ≡ false → read_only rom w.line ≡ false → Leaves (fill_miss rom u.unit.memory u.writes u.cycle w)
      unfolding fill_miss spoiled landed_after
      read_fill e enabled writable =
          let quarter = w.wanted.from / 4 in
          let lanes = ok.within.line in
          let some = ok.within.some in
          let each = cycles_within w.answers (burst quarter) (burst_each quarter) in
          let last = u.cycle + length (fill_cycles w) in
          let same = records_length fill_kind at w.line u.cycle (fill_cycles w) in
          read_missed e fill_kind (record { whole = refl; most = omega arith }) (fill_cycles w) each (quarter * 4) (burst_begins quarter (omega arith) w.answers ok.enough) (omega arith)
          (not (spoiled u.writes u.cycle w) && ken (last_answer 0 (fill_cycles w)))
          (λ t.
          let fresh = not-true _ (both (not (spoiled u.writes u.cycle w)) _ t).0 in (
            enabled,
            writable,
            λ o l.
                rw same
                (ap (λ (z : List ℕ). get_or z o 0) (last_buffer rom (length m) w.line ok.aligned u.writes (under_kept u k).good u.unit.memory u.cycle last fresh (fill_cycles w) each u.cycle (omega arith) (omega arith) (replicate 16 0))
                ∙ fill_buffer (landed rom (due last u.writes) u.unit.memory).ram w.line quarter w.answers ok.enough o l),
          ))
          (λ o l. fill_once quarter w.answers ok.enough (w.wanted.from + o) (omega arith))

      -- the first answer there has no KEN#
      abbrev Quiet : Type 0
      Quiet = read_only rom w.line ≡ true → ken (get_or w.answers 0 0) ≡ false

      quiet_writable : Quiet → ken (get_or w.answers 0 0) ≡ true → read_only rom w.line ≡ false
      quiet_writable quiet h = refuted (read_only rom w.line) (λ e. differ h (quiet e))

      read_found : Quiet → (mayFill : Bool) → (mayFill ≡ true → looked.cd ≡ false) → (f : Option ℕ) → lookup_of looked w.line ≡ f →
          let n = length (read_miss mayFill rom u.unit.memory u.writes u.cycle w).records in
          ReadMatches rom m ws u w (read_done f (victim_of (directory_after u n) (set_of w.line)) mayFill rom u.unit.memory u.writes u.cycle u.unit.array w)
      unfolding read_done read_miss
      read_found quiet mayFill enabled (Some way) e = read_hit_lem way e
      read_found quiet mayFill enabled None e =
          by_test (λ fills. (mayFill && ken (get_or w.answers 0 0)) ≡ fills → Leaves (cond fills (fill_miss rom u.unit.memory u.writes u.cycle w) (plain_miss rom u.unit.memory u.writes u.cycle w)))
          (mayFill && ken (get_or w.answers 0 0))
          (λ _ h. read_fill e (enabled (both mayFill _ h).0) (quiet_writable quiet (both mayFill _ h).1))
          (λ _ _. read_plain e)
          refl

      read_one_lem : Quiet → (pcd : Bool) → ReadMatches rom m ws u w (read_one pcd rom u w)
      unfolding read_one
      read_one_lem quiet pcd =
          read_found quiet (not looked.cd && not pcd) (λ h. not-true _ (both (not looked.cd) (not pcd) h).0) (lookup_of looked w.line) refl

-- what a whole read leaves
pub record ReadsMatch (rom : List Range) (m : List ℕ) (ws : List Carried) (first : ℕ) (ds : List Doubleword) (p : Progress) : Type 0 where
  pub beside : Beside rom p.state (held_at_end rom m ws)
  pub gives : p.bytes ≡ all_by (byte_read rom m ws first (groups_of p.records)) ds
  pub named : (a : ℕ) → Above a ds → FirstAbove a (groups_of p.records)
  pub no_error : NoParityErrors p.records

module _ (rom : List Range) (m : List ℕ) (ws : List Carried) (good : EachGood (length m) ws) (order : Ordered ws) (pcd : Bool) where
  -- the read after a doubleword
  rest_beside : (u : UnderWay) → UnderBeside rom m ws u → (w : Doubleword) → Proper (length m) w → (read_only rom w.line ≡ true → ken (get_or w.answers 0 0) ≡ false) → UnderBeside rom m ws (read_next u w (read_one pcd rom u w))
  rest_beside u k w ok quiet =
      let n = u.cycle + length (read_one pcd rom u w).records in
      record {
        unit = record { kept = (read_one_kept rom (length m) u (under_kept rom m ws good order u k) w ok pcd).unit.kept; beside = (read_one_lem rom m ws good order u k w ok quiet pcd).beside };
        left = ap (later n) k.left ∙ later_then u.cycle n (omega arith) ws;
      }

  pub read_all_lem : (ds : List Doubleword) (u : UnderWay) → UnderBeside rom m ws u → EachProper (length m) ds → Ascending ds → EachQuiet rom ds → ReadsMatch rom m ws u.cycle ds (read_each pcd rom u ds)
  unfolding read_each groups_of EachQuiet
  read_all_lem [] u k g a q =
      let e : held_at_end rom (held_after rom m ws u.cycle) u.writes ≡ held_at_end rom m ws = ap (held_at_end rom (held_after rom m ws u.cycle)) k.left ∙ held_rest rom m u.cycle ws order in
      record {
        beside = rw e at (landing_coherent rom u.cycle u.writes u.unit (held_after rom m ws u.cycle) k.unit (rw (held_length rom m ws u.cycle) (under_kept rom m ws good order u k).good)).beside;
        gives = refl;
        named = λ z h. tt;
        no_error = tt;
      }
  read_all_lem (w ∷ ds) u k g a q =
      let here = read_one pcd rom u w in
      let h = read_one_lem rom m ws good order u k w g.0 q.0 pcd in
      let r = read_all_lem ds (read_next u w (read_one pcd rom u w)) (rest_beside u k w g.0 q.0) g.1 a.1 q.1 in
      let more = (read_each pcd rom (read_next u w (read_one pcd rom u w)) ds).records in
      record {
        beside = r.beside;
        gives = rw (h.gives more (r.named (own_address w) a.0), r.gives, above_same _ _ (length m) (own_address w) (λ x l. sym (h.passes more x l)) ds g.1 a.0);
        named = λ z y. h.named z y.0 more (r.named z y.1);
        no_error = no_error_append here.records more h.no_error r.no_error;
      }
