-- The flags of moved bytes, and a record's words in the log.
use Prim.Native.Nat.{ℕ, zero, suc, ◌+◌, ◌*◌, ◌^◌, ◌≤◌}
use mathlib.Core.Path.{◌≡◌, refl}
use mathlib.Core.Bool.{Bool, true, false, cond}
use mir.Val.{bool_byte}
use mathlib.Core.List.{List, [], ◌∷◌, ◌++◌}
use native.Mathlib.Omega.{arith}
use native.Mathlib.Nat.{pow-suc, add-zero, zero-add, add_comm}
use lib.ListN.{length, set}
use lib.Pow.{pow_pos, pow_mono}
use lib.Seq.{sets}
use Rattle.laws.proofs.Lists.{sets_append}
use Rattle.words.specs.Bytes.{lanes_mask}
use Rattle.bus.specs.Record.{Record, lanes_of, words_of, logged}

-- The flags of moved bytes by powers of two.
lanes_power : (n lane : ℕ) → lanes_of lane n + 2 ^ lane ≡ 2 ^ (lane + n)
unfolding lanes_of
lanes_power zero lane = rw (add-zero lane, zero-add)
lanes_power (suc n) lane =
    let e : lane + suc n ≡ suc lane + n = omega arith in
    let h = lanes_power n (suc lane) in
    rw e (omega (arith, pow-suc 2 lane, h))

-- They stay below 16.
pub lanes_below : (lane n : ℕ) → lane + n ≤ 4 → lanes_of lane n ≤ 15
lanes_below lane n h =
    let a = lanes_power n lane in
    let b = pow_pos lane in
    let c : 2 ^ (lane + n) ≤ 2 ^ 4 = pow_mono h in
    omega arith

-- They are the mask of these lanes.
pub lanes_mask_lem : (lane n : ℕ) → lanes_of lane n ≡ lanes_mask lane n
unfolding lanes_mask
lanes_mask_lem lane n = rw (add_comm n lane) (omega (arith, lanes_power n lane))

-- A flag where its test holds.
pub flag_when : (flag : ℕ) (test : Bool) → flag * bool_byte test ≡ cond test flag 0
flag_when flag true = omega arith
flag_when flag false = omega arith

-- Three words put one after another.
pub three_words : (l : List ℕ) (i a b c : ℕ) → set (set (set l i a) (i + 1) b) (i + 2) c ≡ sets l i (a ∷ b ∷ c ∷ [])
three_words l i a b c =
    let e : i + 1 ≡ suc i = omega arith in
    let f : i + 2 ≡ suc (suc i) = omega arith in
    rw (e, f)

-- Records are three words each.
pub words_length : (rs : List Record) → length (words_of rs) ≡ 3 * length rs
unfolding words_of
words_length [] = refl
words_length (r ∷ rs) = omega (arith, words_length rs)

-- Records put one after another.
words_append : (a b : List Record) → words_of (a ++ b) ≡ words_of a ++ words_of b
unfolding words_of
words_append [] b = refl
words_append (r ∷ a) b = rw (words_append a b)

pub logged_append : (log : List ℕ) (first : ℕ) (a b : List Record) → logged log first (a ++ b) ≡ logged (logged log first a) (first + length a) b
logged_append log first a b =
    let e : 3 * first + length (words_of a) ≡ 3 * (first + length a) = omega (arith, words_length a) in
    rw (words_append a b) (rw e at (sets_append log (3 * first) (words_of a) (words_of b)))
