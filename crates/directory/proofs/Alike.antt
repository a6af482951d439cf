-- Laws of alike directories (document 02, C-14): whatever a call asks of them has the same answer, and each step keeps them alike.
use Rattle.std.specs.Prelude.{Option, Some, None}
use Prim.Native.Nat.{ℕ, ◌<◌}
use mathlib.Core.Path.{◌≡◌, refl, sym, ◌∙◌, ap}
use mathlib.Core.Bool.{Bool, true, false, cond}
use mathlib.Core.List.{List}
use mathlib.Core.Logic.{⊎_elim}
use native.Mathlib.Omega.{arith}
use lib.ListN.{replicate}
use borrow.Author.Tests.{le-ltb}
use Rattle.directory.specs.declared.steps.Directory.{Directory}
use Rattle.ways.specs.Address.{line_count, set_of}
use Rattle.ways.specs.LruBits.{SameBits}
use Rattle.ways.specs.State.{first_number, state_number_in}
use Rattle.directory.specs.Steps.{directory_of, tag_at, lru_at, lookup_of, victim_of, state_number_of, after_use, with_line, after_fill, with_ranges, reset_keeping, after_control, after_flush, invalidated, after_snoop}
use Rattle.directory.specs.WellFormed.{Held, Same}
use Rattle.directory.specs.Alike.{with_lru, SameLines, Alike}
use Rattle.ranges.specs.declared.Ranges.{Ranges}
use Rattle.laws.proofs.Tests.{by_test, same_or}
use Rattle.ways.proofs.LruBits.{use_bits, victim_bits}
use Rattle.directory.proofs.Laws.{reset_none, reset_limits, use_held, use_lru, use_lru_other, use_lru_below, use_sized, line_lru, line_sized, line_held, control_sized, ranges_sized, flush_none, flush_lru, flush_sized, snoop_held, snoop_lru, snoop_sized}

-- WHAT IS ASKED

module _ (d e : Directory) (a : Alike d e) where
  pub alike_lookup : (address : ℕ) → lookup_of e address ≡ lookup_of d address
  alike_lookup address = ap (λ (x : Directory). lookup_of x address) a.lines.same

  pub alike_control : (e.cd ≡ d.cd) × (e.nw ≡ d.nw)
  alike_control = (ap (λ (x : Directory). x.cd) a.lines.same, ap (λ (x : Directory). x.nw) a.lines.same)

  pub alike_ranges : e.ranges ≡ d.ranges
  alike_ranges = ap (λ (x : Directory). x.ranges) a.lines.same

  module _ (s : ℕ) (sl : s < 128) where
    pub alike_victim : victim_of e s ≡ victim_of d s
    alike_victim =
        ap (λ (x : Directory). victim_of x s) a.lines.same
        ∙ sym (victim_bits d.valid d.lru e.lru s (λ w wl h. a.bits s w (tag_at d s w) sl wl (h, refl)))

    pub alike_number : state_number_of e s ≡ state_number_of d s
    unfolding state_number_in first_number
    alike_number =
        let l = a.lines.lru s sl in
        ap (λ (x : Directory). state_number_of x s) a.lines.same ∙ rw (le-ltb 7 (lru_at e s) l.1, le-ltb 7 (lru_at d s) l.0)

-- STEPS

-- where no line is held
none_alike : (d e : Directory) → SameLines d e → ((s w tag : ℕ) → s < 128 → w < 4 → Held d s w tag → ⊥) → Alike d e
none_alike d e z none = record { lines = z; bits = λ s w tag sl wl h. absurd (none s w tag sl wl h) }

pub reset_alike : (ranges : Ranges) → Alike (reset_keeping ranges) (reset_keeping ranges)
reset_alike ranges =
    let g = reset_limits ranges in
    none_alike (reset_keeping ranges) (reset_keeping ranges)
    (record { same = refl; sized = (g.sized, g.sized); lru = λ s l. ((g.sets s l).lru, (g.sets s l).lru) })
    (reset_none ranges)

-- where each line but one has these bits, a use of that one gives them to all
module _ (d e : Directory) (z : SameLines d e) (s w : ℕ) (sl : s < 128) (wl : w < 4) where
  used_lines : SameLines (after_use d s w) (after_use e s w)
  unfolding after_use
  used_lines =
      record {
        same = ap (λ (x : Directory). after_use x s w) z.same;
        sized = (use_sized d z.sized.0 s w, use_sized e z.sized.1 s w);
        lru = λ r rl. let l = z.lru r rl in (use_lru_below d s w z.sized.0 sl wl r l.0, use_lru_below e s w z.sized.1 sl wl r l.1);
      }

  used_alike : ((r v tag : ℕ) → r < 128 → v < 4 → (Same r v s w → ⊥) → Held d r v tag → SameBits (lru_at d r) (lru_at e r) v) → Alike (after_use d s w) (after_use e s w)
  used_alike others =
      record {
        lines = used_lines;
        bits = λ r v tag rl vl h.
            let held = use_held d s w r v tag h in
            same_or _ r s
            (λ q.
            rw (q, use_lru d s w z.sized.0 sl, use_lru e s w z.sized.1 sl)
            (use_bits (lru_at d s) (lru_at e s) v w wl λ n. others s v tag sl vl (λ m. n m.1) (rw q at held)))
            (λ n. rw (use_lru_other d s w r n, use_lru_other e s w r n) (others r v tag rl vl (λ m. n m.0) held));
      }

module _ (d e : Directory) (a : Alike d e) where
  module _ (s w : ℕ) (sl : s < 128) (wl : w < 4) where
    pub use_alike : Alike (after_use d s w) (after_use e s w)
    use_alike = used_alike d e a.lines s w sl wl (λ r v tag rl vl _. a.bits r v tag rl vl)

    line_lines : (tag : ℕ) (mark : Bool) → SameLines (with_line d s w tag mark) (with_line e s w tag mark)
    unfolding with_line
    line_lines tag mark =
        let z = a.lines in
        record {
          same = ap (λ (x : Directory). with_line x s w tag mark) z.same;
          sized = (line_sized d s w tag mark z.sized.0, line_sized e s w tag mark z.sized.1);
          lru = z.lru;
        }

    pub fill_alike : (tag : ℕ) → Alike (after_fill d s w tag) (after_fill e s w tag)
    unfolding after_fill
    fill_alike tag =
        used_alike (with_line d s w tag true) (with_line e s w tag true) (line_lines tag true) s w sl wl
        λ r v t rl vl n h.
        rw (line_lru d s w tag true r, line_lru e s w tag true r)
        (⊎_elim (λ m. absurd (n m.0)) (λ m. a.bits r v t rl vl m.1) (line_held d s w tag true a.lines.sized.0 sl wl r v t vl h))

  pub control_alike : (cd nw : Bool) → Alike (after_control d cd nw) (after_control e cd nw)
  unfolding after_control
  control_alike cd nw =
      let z = a.lines in
      record {
        lines =
            record {
              same = ap (λ (x : Directory). after_control x cd nw) z.same;
              sized = (control_sized d cd nw z.sized.0, control_sized e cd nw z.sized.1);
              lru = z.lru;
            };
        bits = a.bits;
      }

  pub ranges_alike : (ranges : Ranges) → Alike (with_ranges d ranges) (with_ranges e ranges)
  unfolding with_ranges
  ranges_alike ranges =
      let z = a.lines in
      record {
        lines =
            record {
              same = ap (λ (x : Directory). with_ranges x ranges) z.same;
              sized = (ranges_sized d ranges z.sized.0, ranges_sized e ranges z.sized.1);
              lru = z.lru;
            };
        bits = a.bits;
      }

-- a flush beside one that clears the valid marks and nothing else
pub flush_alike : (d e : Directory) → Alike d e → Alike (after_flush d) (directory_of e.tags (replicate line_count false) e.lru e.cd e.nw e.ranges)
unfolding after_flush
flush_alike d e a =
    let z = a.lines in
    none_alike (after_flush d) _
    (record {
      same = ap (λ (x : Directory). directory_of x.tags (replicate line_count false) x.lru x.cd x.nw x.ranges) z.same;
      sized = (flush_sized d z.sized.0, record { tags = z.sized.1.tags; valid = refl; lru = z.sized.1.lru });
      lru = λ s l. let n = flush_lru d s l in (omega arith, (z.lru s l).1);
    })
    (flush_none d)

-- a snoop of other LRU numbers leaves them
found_lru : (d : Directory) (lru : List ℕ) (s : ℕ) (f : Option ℕ) → invalidated (with_lru d lru) s f ≡ with_lru (invalidated d s f) lru
unfolding invalidated
found_lru d lru s (Some w) = refl
found_lru d lru s None = refl

snooped_lru : (d : Directory) (lru : List ℕ) (address : ℕ) → after_snoop (with_lru d lru) address ≡ with_lru (after_snoop d address) lru
unfolding after_snoop
snooped_lru d lru address =
    by_test (λ b. cond b (with_lru d lru) (invalidated (with_lru d lru) (set_of address) (lookup_of d address)) ≡ with_lru (cond b d (invalidated d (set_of address) (lookup_of d address))) lru) d.nw
    (λ _. refl)
    (λ _. found_lru d lru (set_of address) (lookup_of d address))

pub snoop_alike : (d e : Directory) → Alike d e → (address : ℕ) → Alike (after_snoop d address) (after_snoop e address)
snoop_alike d e a address =
    let z = a.lines in
    let p : after_snoop e address ≡ with_lru (after_snoop d address) e.lru =
    ap (λ (x : Directory). after_snoop x address) z.same ∙ snooped_lru d e.lru address in
    record {
      lines =
          record {
            same = p ∙ ap (λ (l : List ℕ). with_lru (after_snoop d address) l) (sym (ap (λ (x : Directory). x.lru) p));
            sized = (snoop_sized d z.sized.0 address, snoop_sized e z.sized.1 address);
            lru = λ s l. rw (snoop_lru d z.sized.0 address s, snoop_lru e z.sized.1 address s) (z.lru s l);
          };
      bits = λ s w tag sl wl h.
          rw (snoop_lru d z.sized.0 address s, snoop_lru e z.sized.1 address s)
          (a.bits s w tag sl wl (snoop_held d z.sized.0 address s w tag wl h));
    }
