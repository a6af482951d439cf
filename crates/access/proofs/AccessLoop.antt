-- Laws of the loops over doublewords: what is left from here gives what the whole gives.
use Prim.Native.Nat.{ℕ, zero, suc, ◌+◌, ◌*◌, ◌-◌, ◌/◌, ◌%◌, ◌<◌, min}
use mathlib.Core.Path.{◌≡◌, refl, sym, ◌∙◌, ap}
use mathlib.Core.List.{List, [], ◌∷◌}
use native.Mathlib.Omega.{arith}
use lib.ListN.{length, take, drop, length-append}
use lib.Seq.{drop-drop}
use Rattle.bus.specs.Bus.{run}
use Rattle.bus.proofs.Flags.{logged_append}
use Rattle.bus.specs.Record.{logged, words_of}
use Rattle.directory.specs.declared.steps.Directory.{Directory}
use Rattle.doubleword.specs.declared.change.Change.{Change}
use Rattle.doubleword.specs.declared.change.Change.TheVariants.{Unchanged}
use Rattle.doubleword.specs.declared.cursor.AccessCursor.{AccessCursor}
use Rattle.bus.specs.Groups.{group_size, group_count}
use Rattle.doubleword.specs.Doubleword.{Doubleword, Done, doublewords_of, changed}
use Rattle.doubleword.specs.Cursor.{count_of, access_next, next_doubleword}
use Rattle.refusal.specs.Call.{State}
use Rattle.access.specs.Access.{Progress, progress, then_rest, all_of, next}

-- the next doubleword, and those after it
pub next_of : (g : ℕ) (xs : List ℕ) (address n place : ℕ) → 0 < n →
    doublewords_of (suc g) xs address n place
    ≡ record {
      line = address / 16 * 16;
      wanted = run (address % 16) (min n (4 - address % 4));
      place = place;
      answers = take group_size xs;
    }
    ∷ doublewords_of g (drop group_size xs) (address + min n (4 - address % 4)) (n - min n (4 - address % 4)) (place + min n (4 - address % 4))
unfolding doublewords_of
next_of g xs address zero place h = absurd (omega arith)
next_of g xs address (suc n) place h = refl

pub none_of : (g : ℕ) (xs : List ℕ) (address place : ℕ) → doublewords_of g xs address 0 place ≡ []
unfolding doublewords_of
none_of zero xs address place = refl
none_of (suc g) xs address place = refl

-- the doublewords left
unfoldable pub rest_of : AccessCursor → List ℕ → List Doubleword
rest_of cursor answers =
    doublewords_of (group_count - cursor.group) (drop (cursor.group * group_size) answers) cursor.address cursor.left cursor.place

module _ (cursor : AccessCursor) (xs : List ℕ) (cycles : ℕ) (some : 0 < cursor.left) (more : cursor.group < group_count) where
  pub rest_next : rest_of cursor xs ≡ next_doubleword cursor xs ∷ rest_of (access_next cursor (count_of cursor) cycles) xs
  unfolding rest_of
  rest_next =
      let g : group_count - cursor.group ≡ suc (group_count - (cursor.group + 1)) = omega arith in
      let d : cursor.group * group_size + group_size ≡ (cursor.group + 1) * group_size = omega arith in
      let q : drop group_size (drop (cursor.group * group_size) xs) ≡ drop ((cursor.group + 1) * group_size) xs = drop-drop group_size (cursor.group * group_size) xs ∙ ap (λ (i : ℕ). drop i xs) d in
      ap (λ (i : ℕ). doublewords_of i (drop (cursor.group * group_size) xs) cursor.address cursor.left cursor.place) g
      ∙ next_of (group_count - (cursor.group + 1)) (drop (cursor.group * group_size) xs) cursor.address cursor.left cursor.place some
      ∙ ap (λ (ys : List ℕ). next_doubleword cursor xs ∷ doublewords_of (group_count - (cursor.group + 1)) ys (cursor.address + count_of cursor) (cursor.left - count_of cursor) (cursor.place + count_of cursor)) q

pub rest_done : (cursor : AccessCursor) (xs : List ℕ) → cursor.left ≡ 0 → rest_of cursor xs ≡ []
unfolding rest_of
rest_done cursor xs e =
    ap (λ (n : ℕ). doublewords_of (group_count - cursor.group) (drop (cursor.group * group_size) xs) cursor.address n cursor.place) e
    ∙ none_of (group_count - cursor.group) (drop (cursor.group * group_size) xs) cursor.address cursor.place

-- what the loops keep: what the doublewords left give is what all give
pub record AccessInvariant (rest p : Progress) (log₀ : List ℕ) (cycles : ℕ) (log : List ℕ) : Type 0 where
  pub states : rest.state ≡ p.state
  pub logs : logged log cycles rest.records ≡ logged log₀ 0 p.records
  pub made : cycles + length rest.records ≡ length p.records

pub access_invariant_begin : (p : Progress) (log₀ : List ℕ) → AccessInvariant p p log₀ 0 log₀
access_invariant_begin p log₀ = record { states = refl; logs = refl; made = omega arith }

module _ {rest p : Progress} {log₀ : List ℕ} {cycles : ℕ} {log : List ℕ} (g : AccessInvariant rest p log₀ cycles log) where
  pub access_invariant_next : (done : Done) (rest' : Progress) (log' : List ℕ) (n : ℕ) → rest ≡ then_rest done rest' → log' ≡ logged log cycles done.records → n ≡ length done.records →
      AccessInvariant rest' p log₀ (cycles + n) log'
  access_invariant_next done rest' log' n e el en =
      let k : cycles + n ≡ cycles + length done.records = omega arith in
      let m : length rest.records ≡ length done.records + length rest'.records = ap (λ (q : Progress). length q.records) e ∙ length-append done.records rest'.records in
      record {
        states = sym (ap (λ (q : Progress). q.state) e) ∙ g.states;
        logs =
            rw el
            (ap (λ (i : ℕ). logged (logged log cycles done.records) i rest'.records) k
            ∙ sym (logged_append log cycles done.records rest'.records)
            ∙ sym (ap (λ (q : Progress). logged log cycles q.records) e)
            ∙ g.logs);
        made = omega (arith, g.made);
      }

  pub access_invariant_end : (s : State) → rest ≡ progress s [] [] → (s ≡ p.state) × (log ≡ logged log₀ 0 p.records) × (cycles ≡ length p.records)
  unfolding words_of
  access_invariant_end s e =
      (sym (ap (λ (q : Progress). q.state) e) ∙ g.states, sym (ap (λ (q : Progress). logged log cycles q.records) e) ∙ g.logs, (let m = ap (λ (q : Progress). length q.records) e in omega (arith, g.made)))

-- all doublewords of a write, or of a read that carries nothing
module _ (one : State → Doubleword → Done) (xs : List ℕ) (cursor : AccessCursor) (s : State) where
  abbrev w : Doubleword
  w = next_doubleword cursor xs

  -- those left are the next one and those after it
  pub all_next : 0 < cursor.left → cursor.group < group_count → (cycles : ℕ) → all_of one s (rest_of cursor xs)
      ≡ then_rest (one s w) (all_of one (next s w (one s w)) (rest_of (access_next cursor (count_of cursor) cycles) xs))
  unfolding all_of
  all_next some more cycles = rw (rest_next cursor xs cycles some more)

  pub all_done : cursor.left ≡ 0 → all_of one s (rest_of cursor xs) ≡ progress s [] []
  unfolding all_of
  all_done z = rw (rest_done cursor xs z)

-- where the change is `Unchanged` the directory stays
pub keep_changed : (d d' : Directory) (line : ℕ) (change : Change) → change ≡ Unchanged → d' ≡ d → d' ≡ changed d line change
unfolding changed
keep_changed d d' line change e same = rw e same
