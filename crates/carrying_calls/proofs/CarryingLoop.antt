-- Laws of the loops over the doublewords of a read that carries writes, by the bytes that RAM takes of each: no range is asked in them.
use Rattle.std.specs.Prelude.{Option, Some, None}
use Prim.Native.Nat.{ℕ, ◌+◌, ◌*◌, ◌^◌, ◌≤◌, ◌<◌}
use mathlib.Core.Path.{◌≡◌, refl, sym, ◌∙◌, ap}
use mathlib.Core.Bool.{Bool, not, ◌&&◌}
use mathlib.Core.List.{List, []}
use native.Mathlib.Omega.{arith}
use lib.ListN.{length}
use Rattle.ways.specs.Address.{set_of}
use Rattle.ways.proofs.FourWays.{lookup_below}
use Rattle.directory.specs.declared.steps.Directory.{Directory}
use Rattle.directory.specs.Outcome.{outcome}
use Rattle.directory.specs.Steps.{lookup_of, victim_of, ranges_kept}
use Rattle.words.specs.Bytes.{value_of}
use Rattle.memory.specs.Parity.{Memory}
use Rattle.carried.specs.declared.CarriedWrites.{CarriedWrites}
use Rattle.carried.specs.Carried.{Carried, due, later, landed, taken}
use Rattle.carried.specs.CarriedCode.{carried_of, left_from, CarriedNeeds}
use Rattle.carried.proofs.Due.{due_zero, due_none}
use Rattle.bus.specs.Groups.{group_count, widest}
use Rattle.bus.specs.Record.{logged}
use Rattle.doubleword.specs.declared.change.Change.{Change}
use Rattle.doubleword.specs.declared.cursor.AccessCursor.{AccessCursor}
use Rattle.doubleword.specs.Doubleword.{Doubleword, Done, doublewords_of, changed}
use Rattle.doubleword.specs.Cursor.{line_address, count_of, access_begin, access_next, next_doubleword, AccessNeeds}
use Rattle.doubleword.proofs.Cursors.{needs_lengths, needs_more, cursor_needs}
use Rattle.reading.specs.Reading.{kept_array, read_hit, read_miss, settled, read_done}
use Rattle.refusal.specs.Refusal.{or_else, lent_number, argument_number, carried_number, kept_number, states_number_of, carried_states_number}
use Rattle.refusal.specs.Call.{State, state, after, refused}
use Rattle.refusal.proofs.Accepted.{or_zero, lent_accepted}
use Rattle.refusal.proofs.Carried.{all_left, carried_accepted}
use Rattle.access.specs.Access.{Progress, progress, then_rest, UnderWay, under_way, snooped_by, directory_after, read_one, read_next, landed_after, read_each, read_number, read_all, read_call, accepted}
use Rattle.access.proofs.AccessLoop.{rest_of, rest_next, rest_done}
use Rattle.access.proofs.Alone.{done_length}
use Rattle.access.proofs.Landing.{carried_lines, each_taken}
use Rattle.access.proofs.ReadLoop.{ReadInvariant, reading_begin, reading_next, reading_end, number_fits}
use Rattle.access.proofs.Calls.{read_refused, read_done_lem, whole, needs_begin}
use Rattle.carrying.specs.declared.next.CarriedRead.{CarriedRead}
use Rattle.carrying.specs.CarryingCode.{Begun, begun_by, CarriedNext, settled_change, keeps, FoundBelow}
use Rattle.carrying_calls.specs.CarryingCalls.{snooped_to, Ended, EndNeeds}

-- the two stages of the code do what the rules do for a doubleword
record Whole (done : Done) (b : Begun) (change : Change) (m' : Memory) (array' : List ℕ) : Type 0 where
  changes : change ≡ done.change
  memories : m' ≡ done.memory
  arrays : array' ≡ done.array
  bytes : b.bytes ≡ done.bytes
  records : b.records ≡ done.records

-- `victim`: by the directory after so many cycles, which a hit does not ask
in_stages : (f : Option ℕ) (victim : ℕ → ℕ) (mayFill : Bool) (m : Memory) (ws : List Carried) (first : ℕ) (array : List ℕ) (w : Doubleword) → due first ws ≡ [] →
    let b = begun_by f mayFill m ws first array w in
    let n = length b.records in
    Whole (read_done f (victim (length (read_miss mayFill [] m ws first w).records)) mayFill [] m ws first array w) b
    (settled_change b.kept (victim n) f)
    (landed [] (due (first + n) ws) m)
    (kept_array b.kept (victim n) w.line b.buffer array)
unfolding begun_by read_done read_hit settled landed
in_stages (Some way) victim mayFill m ws first array w none =
    let e : first + 0 ≡ first = omega arith in
    record { changes = refl; memories = rw (e, none); arrays = refl; bytes = refl; records = refl }
in_stages None victim mayFill m ws first array w none = record { changes = refl; memories = refl; arrays = refl; bytes = refl; records = refl }

-- a way that the lookup finds is below 4
pub found_below : (d : Directory) (a : ℕ) (f : Option ℕ) → f ≡ lookup_of d a → FoundBelow f
found_below d a (Some way) e = lookup_below d.tags d.valid a way (sym e)
found_below d a None e = tt

module _ (pcd : Bool) (xs : List ℕ) (carried : CarriedWrites) (cursor : AccessCursor) (d : Directory) (m : Memory) (array log : List ℕ) (from : ℕ) where
  abbrev u : UnderWay
  u = under_way (state d m array) (left_from carried from) cursor.cycles

  abbrev w : Doubleword
  w = next_doubleword cursor xs

  abbrev found : Option ℕ
  found = lookup_of d (line_address cursor)

  abbrev begun : Begun
  begun = begun_by found (not d.cd && not pcd) m (left_from carried from) cursor.cycles array w

  abbrev done : Done
  done = read_one pcd [] u w

  -- all doublewords left are the next one and those after it
  each_next : 0 < cursor.left → cursor.group < group_count → (n : ℕ) → read_each pcd [] u (rest_of cursor xs) ≡ then_rest done (read_each pcd [] (read_next u w done) (rest_of (access_next cursor (count_of cursor) n) xs))
  unfolding read_each
  each_next some more n = rw (rest_next cursor xs n some more)

  each_done : cursor.left ≡ 0 → read_each pcd [] u (rest_of cursor xs) ≡ progress (landed_after [] u) [] []
  unfolding read_each
  each_done z = rw (rest_done cursor xs z)

  one_length : length done.bytes ≡ count_of cursor
  unfolding read_one
  one_length = done_length _ _ _ _ _ _ _ _ w

  module _ (none : due cursor.cycles (left_from carried from) ≡ []) {r : CarriedRead} {m' : Memory} {log' : List ℕ} (k : CarriedNext found begun carried from m cursor log r m' log') where
    whole_done : Whole done begun
        (settled_change begun.kept (victim_of (directory_after u (length begun.records)) (set_of (line_address cursor))) found)
        (landed [] (due (cursor.cycles + length begun.records) (left_from carried from)) m)
        (kept_array begun.kept (victim_of (directory_after u (length begun.records)) (set_of (line_address cursor))) (line_address cursor) begun.buffer array)
    unfolding read_one
    whole_done = in_stages found (λ n. victim_of (directory_after u n) (set_of (line_address cursor))) (not d.cd && not pcd) m (left_from carried from) cursor.cycles array w none

    made : r.cycles ≡ length done.records
    made = k.made ∙ ap length whole_done.records

    -- what the end of the doubleword needs
    pub end_needs : CarriedNeeds carried (length m.ram) (length m.parity) → length array ≡ 8192 → EndNeeds carried from r (length array)
    end_needs z e =
        record {
          above = k.lands.above;
          within = k.lands.within;
          few = z.few;
          array_length = e;
          below = found_below d (line_address cursor) r.found k.founds;
        }

    module _ {d' : Directory} {array' : List ℕ} (e : Ended carried from r d array d' array') where
      snooped : snooped_to carried from r.landed d ≡ directory_after u (length begun.records)
      snooped = ap (λ (l : List Carried). snooped_by l d) (k.lands.those ∙ ap (λ (n : ℕ). due (cursor.cycles + n) (left_from carried from)) k.made)

      directories : d' ≡ changed (directory_after u (length done.records)) (line_address cursor) done.change
      directories =
          (rw (snooped, k.line, k.kept, k.founds) at e.directories)
          ∙ ap (changed (directory_after u (length begun.records)) (line_address cursor)) whole_done.changes
          ∙ ap (λ (n : ℕ). changed (directory_after u n) (line_address cursor) done.change) (ap length whole_done.records)

      memories : m' ≡ done.memory
      memories = k.lands.memories ∙ ap (λ (n : ℕ). landed [] (due (cursor.cycles + n) (left_from carried from)) m) k.made ∙ whole_done.memories

      arrays : array' ≡ done.array
      arrays = (rw (snooped, k.line, k.kept, k.buffers) at e.arrays) ∙ whole_done.arrays

      -- the read after the doubleword
      goes : under_way (state d' m' array') (left_from carried r.landed) (cursor.cycles + r.cycles) ≡ read_next u w done
      goes =
          let l : left_from carried r.landed ≡ later (cursor.cycles + length done.records) (left_from carried from) = k.lands.lefts ∙ ap (λ (n : ℕ). later (cursor.cycles + n) (left_from carried from)) made in
          rw (directories, memories, arrays, l, made)

-- the loop of a read that carries writes, with the lengths of its buffers
pub record CarryKept (pcd : Bool) (xs : List ℕ) (carried : CarriedWrites) (p : Progress) (log₀ array₀ : List ℕ) (m₀ : Memory) (cursor : AccessCursor) (d : Directory) (m : Memory) (array log : List ℕ) (value from : ℕ) : Type 0 where
  pub reading : ReadInvariant (read_each pcd [] (under_way (state d m array) (left_from carried from) cursor.cycles) (rest_of cursor xs)) p log₀ cursor.place cursor.cycles log value
  pub needs : AccessNeeds cursor (length m₀.ram) (length m₀.parity) (length array₀) (length xs) (length log₀)
  pub writes : CarriedNeeds carried (length m₀.ram) (length m₀.parity)
  pub none : due cursor.cycles (left_from carried from) ≡ []
  pub within : from ≤ carried.count
  pub rams : length m.ram ≡ length m₀.ram
  pub parities : length m.parity ≡ length m₀.parity
  pub arrays : length array ≡ length array₀
  pub logs : length log ≡ length log₀

module _ {pcd : Bool} {xs : List ℕ} {carried : CarriedWrites} {p : Progress} {log₀ array₀ : List ℕ} {m₀ : Memory} {cursor : AccessCursor} {d : Directory} {m : Memory} {array log : List ℕ} {value from : ℕ}
    (g : CarryKept pcd xs carried p log₀ array₀ m₀ cursor d m array log value from) where
  pub kept_writes : CarriedNeeds carried (length m.ram) (length m.parity)
  kept_writes = let er = g.rams in let ep = g.parities in rw (er, ep) g.writes

  module _ (some : 0 < cursor.left) where
    pub kept_needs : AccessNeeds cursor (length m.ram) (length m.parity) (length array) (length xs) (length log)
    kept_needs = needs_lengths g.rams g.parities g.arrays g.logs g.needs

    module _ {r : CarriedRead} {m' : Memory} {log' : List ℕ} (k : CarriedNext (found pcd xs carried cursor d m array log from) (begun pcd xs carried cursor d m array log from) carried from m cursor log r m' log') where
      -- the number of the bytes read so far fits
      pub part_fits : (cursor.place < widest) × (value + r.value * 256 ^ cursor.place < 256 ^ widest)
      part_fits = number_fits cursor value r.value some g.needs.operands g.reading.below k.fits

      -- the next turn
      pub kept_next : {d' : Directory} {array' : List ℕ} → Ended carried from r d array d' array' → (value' : ℕ) (v : AccessCursor) → value' ≡ value + r.value * 256 ^ cursor.place → v ≡ access_next cursor r.count r.cycles →
          length m'.ram ≡ length m.ram → length m'.parity ≡ length m.parity → length array' ≡ length array → length log' ≡ length log →
          CarryKept pcd xs carried p log₀ array₀ m₀ v d' m' array' log' value' r.landed
      kept_next e value' v ev eu er ep ea el =
          let ec = k.counts in
          let n = goes pcd xs carried cursor d m array log from g.none k e in
          let o = whole_done pcd xs carried cursor d m array log from g.none k in
          record {
            reading =
                rw (eu, ec, n)
                (reading_next g.reading (done pcd xs carried cursor d m array log from) _ (count_of cursor) r.value
                (each_next pcd xs carried cursor d m array log from some (needs_more _ _ _ _ _ _ g.needs some) r.cycles)
                (one_length pcd xs carried cursor d m array log from)
                (k.gives ∙ ap value_of o.bytes)
                log' r.cycles value' k.fits
                (k.logs ∙ ap (logged log cursor.cycles) o.records)
                (made pcd xs carried cursor d m array log from g.none k)
                ev);
            needs = cursor_needs cursor v r.count r.cycles some ec eu _ _ _ _ _ k.most g.needs;
            writes = g.writes;
            none = rw eu (ap (due (cursor.cycles + r.cycles)) k.lands.lefts ∙ due_none (cursor.cycles + r.cycles) (left_from carried from));
            within = k.lands.within;
            rams = er ∙ g.rams;
            parities = ep ∙ g.parities;
            arrays = ea ∙ g.arrays;
            logs = el ∙ g.logs;
          }

-- the end of a doubleword, by the steps of the code
pub ended_by : {carried : CarriedWrites} {from : ℕ} {read : CarriedRead} {d : Directory} {array : List ℕ} {d' : Directory} {array' : List ℕ} (d₁ : Directory) (change : Change) →
    d₁ ≡ snooped_to carried from read.landed d → change ≡ settled_change (keeps read) (victim_of d₁ (set_of read.line)) read.found →
    d' ≡ changed d₁ read.line change → array' ≡ kept_array (keeps read) (victim_of d₁ (set_of read.line)) read.line read.buffer array →
    Ended carried from read d array d' array'
ended_by {read = read} d₁ change es ec ed ea = record { directories = rw (← es) (ed ∙ ap (changed d₁ read.line) ec); arrays = rw (← es) ea }

-- the call by the number that the code has asked for
module _ (d : Directory) (m : Memory) (array : List ℕ) (address width : ℕ) (answers log : List ℕ) (pcd : Bool) where
  abbrev s : State
  s = state d m array

  abbrev pub all_carried : CarriedWrites → Progress
  all_carried c = read_each pcd [] (under_way s (left_from c 0) 0) (rest_of (access_begin address width) answers)

  module _ (carried : CarriedWrites) where
    abbrev lent : ℕ
    lent = lent_number (length m.ram) (length m.parity) (length array)

    abbrev argument : ℕ
    argument = argument_number (length m.ram) address width answers (length log)

    abbrev wrong : ℕ
    wrong = carried_number (length m.ram) (carried_of carried)

    -- of the ranges that the directory keeps, then of the touched sets
    abbrev states : ℕ
    states = or_else (kept_number (length m.ram) d.ranges) (or_else (states_number_of d address width) (carried_states_number d (carried_of carried)))

    abbrev number : ℕ
    number = or_else lent (or_else argument (or_else wrong states))

    pub carry_turned : (k : ℕ) → k ≡ number → (k ≡ 0 → ⊥) → refused k s log ≡ read_call s address width pcd answers log (carried_of carried)
    unfolding read_number
    carry_turned k e h = sym (rw (← e) at (read_refused s address width pcd answers log (carried_of carried) (λ z. h (e ∙ z))))

    module _ (z : number ≡ 0) where
      not_wrong : wrong ≡ 0
      not_wrong = (or_zero wrong states (or_zero argument (or_else wrong states) (or_zero lent (or_else argument (or_else wrong states)) z).1).1).0

      carry_needs : CarriedNeeds carried (length m.ram) (length m.parity)
      carry_needs =
          let l = (lent_accepted _ _ _ (or_zero lent (or_else argument (or_else wrong states)) z).0).0 in
          carried_accepted carried _ _ not_wrong (omega (arith, l.bits, l.whole))

      pub carry_few : carried.count ≤ 4
      carry_few = carry_needs.few

      -- by the bytes that RAM takes
      module _ (c : CarriedWrites) where
        pub carry_begin : ((ram parity : ℕ) → CarriedNeeds carried ram parity → CarriedNeeds c ram parity) → CarryKept pcd answers c (all_carried c) log array m (access_begin address width) d m array log 0 0
        carry_begin fits =
            record {
              reading = reading_begin (all_carried c) log;
              needs = needs_begin d m array address width answers log (or_else wrong states) z;
              writes = fits _ _ carry_needs;
              none = due_zero (left_from c 0);
              within = omega arith;
              rams = refl;
              parities = refl;
              arrays = refl;
              logs = refl;
            }

        -- what is left of the writes has landed and is snooped
        pub carry_made : carried_of c ≡ taken (ranges_kept d) (carried_of carried) → {cursor : AccessCursor} {d₁ : Directory} {m₁ : Memory} {array₁ log₁ : List ℕ} {value from : ℕ} →
            CarryKept pcd answers c (all_carried c) log array m cursor d₁ m₁ array₁ log₁ value from → cursor.left ≡ 0 → (d₂ : Directory) (m₂ : Memory) → d₂ ≡ snooped_by (left_from c from) d₁ → m₂ ≡ landed [] (left_from c from) m₁ →
            after (outcome d₂ 0 value cursor.cycles) m₂ array₁ log₁ ≡ read_call s address width pcd answers log (carried_of carried)
        unfolding read_number read_all rest_of landed_after
        carry_made ec {cursor} {d₁} {m₁} {array₁} {log₁} {value} {from} g e d₂ m₂ ed em =
            let words = doublewords_of group_count answers address width 0 in
            let l : state (snooped_by (left_from c from) d₁) (landed [] (left_from c from) m₁) array₁ ≡ state d₂ m₂ array₁ = rw (ed, em) in
            let n = each_done pcd answers c cursor d₁ m₁ array₁ log₁ from e ∙ ap (λ (t : State). progress t [] []) l in
            let q : all_carried c ≡ read_each pcd (ranges_kept d) (under_way s (carried_of carried) 0) words =
            ap (λ (ws : List Carried). read_each pcd [] (under_way s ws 0) words) (all_left c ∙ ec)
            ∙ sym (each_taken (ranges_kept d) pcd s (carried_of carried) 0 (carried_lines (length m.ram) (carried_of carried) not_wrong) words) in
            whole g.reading.invariant d₂ m₂ array₁ n value (value_of (all_carried c).bytes) (reading_end g.reading (state d₂ m₂ array₁) n)
            ∙ ap (λ (p : Progress). accepted (value_of p.bytes) p log) q
            ∙ sym (read_done_lem s address width pcd answers log (carried_of carried) z)
