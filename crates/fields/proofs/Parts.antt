-- Laws of parted texts: a text from a place on, the first part, the parts after it, and the lines of an input.
use Prim.Native.Nat.{ℕ, suc, ◌+◌, ◌-◌, ◌≤◌, ◌<◌}
use mathlib.Core.Path.{◌≡◌, refl, sym, ◌∙◌}
use mathlib.Core.Bool.{cond, not}
use mathlib.Core.List.{List, [], ◌∷◌}
use native.Mathlib.Numerals.{add-one}
use native.Mathlib.Omega.{arith}
use lib.Seq.{take-length, take_all}
use lib.Dec.{eqb, ltb}
use lib.ListN.{length, take, drop, drop_of_length-le, length-drop}
use borrow.Author.Tests.{ne_eqb, ltb-true, ltb-false}
use Rattle.laws.proofs.Tests.{by_test, same_or}
use Rattle.std.proofs.lemmas.List.Sums.{prefix_len-le-length}
use Rattle.std.specs.List.{position}
use Rattle.std.specs.Prelude.{Some, None}
use Rattle.fields.specs.Fields.{index_of, in_front, parts_of, newline, without_empty_end, lines_of}

-- a text from a place on, as a part of it up to its end
pub drop_part : (k : ℕ) (l : List ℕ) → take (length l - k) (drop k l) ≡ drop k l
drop_part k l = take_all (length l - k) (drop k l) (omega (arith, length-drop k l))

-- there is always a part
pub parts_some : (separator : ℕ) (l : List ℕ) → (part : List ℕ) × (parts : List (List ℕ)) × (parts_of separator l ≡ part ∷ parts)
unfolding parts_of in_front
parts_some separator [] = ([], [], refl)
parts_some separator (c ∷ cs) =
    let (part, parts, e) = parts_some separator cs in
    by_test (λ t. (part : List ℕ) × (parts : List (List ℕ)) × (cond t ([] ∷ parts_of separator cs) (in_front c (parts_of separator cs)) ≡ part ∷ parts))
    (eqb c separator)
    (λ _. ([], parts_of separator cs, refl))
    (λ _. (c ∷ part, parts, rw e))

-- the bytes of parts and what parts them
abbrev pub total : List (List ℕ) → ℕ
total [] = 0
total (part ∷ parts) = suc (length part) + total parts

pub parts_total : (separator : ℕ) (l : List ℕ) → total (parts_of separator l) ≡ suc (length l)
unfolding parts_of in_front
parts_total separator [] = omega arith
parts_total separator (c ∷ cs) =
    let (part, parts, e) = parts_some separator cs in
    let t : suc (length part) + total parts ≡ suc (length cs) = rw e at (parts_total separator cs) in
    by_test (λ b. total (cond b ([] ∷ parts_of separator cs) (in_front c (parts_of separator cs))) ≡ suc (suc (length cs)))
    (eqb c separator)
    (λ _. omega (arith, parts_total separator cs))
    (λ _. rw e (omega (arith, t)))

-- where the first separator is, byte by byte
pub index_step : (separator c : ℕ) (cs : List ℕ) → index_of separator (c ∷ cs) ≡ cond (eqb c separator) 0 (suc (index_of separator cs))
unfolding index_of
index_step separator c cs = by_test (λ t. cond (not t) (1 + index_of separator cs) 0 ≡ cond t 0 (suc (index_of separator cs))) (eqb c separator) (λ _. refl) (λ _. omega arith)

-- a text without a separator is one part
pub parts_end : (separator : ℕ) (l : List ℕ) → index_of separator l ≡ length l → parts_of separator l ≡ l ∷ []
unfolding parts_of in_front
parts_end separator [] e = refl
parts_end separator (c ∷ cs) e =
    by_test (λ t. cond t 0 (suc (index_of separator cs)) ≡ suc (length cs) → cond t ([] ∷ parts_of separator cs) (in_front c (parts_of separator cs)) ≡ (c ∷ cs) ∷ [])
    (eqb c separator)
    (λ _ f. absurd (omega (arith, f)))
    (λ _ f. rw (parts_end separator cs (omega (arith, f))))
    (sym (index_step separator c cs) ∙ e)

-- the first part of a text with a separator ends at the first one
pub parts_more : (separator : ℕ) (l : List ℕ) → index_of separator l < length l → parts_of separator l ≡ take (index_of separator l) l ∷ parts_of separator (drop (suc (index_of separator l)) l)
unfolding parts_of in_front
parts_more separator [] h = absurd (omega (arith, h))
parts_more separator (c ∷ cs) h =
    rw (index_step separator c cs)
    (by_test (λ t. cond t 0 (suc (index_of separator cs)) < suc (length cs) → cond t ([] ∷ parts_of separator cs) (in_front c (parts_of separator cs)) ≡ take (cond t 0 (suc (index_of separator cs))) (c ∷ cs) ∷ parts_of separator (drop (suc (cond t 0 (suc (index_of separator cs)))) (c ∷ cs)))
    (eqb c separator)
    (λ _ f. refl)
    (λ _ f. rw (parts_more separator cs (omega (arith, f))))
    (rw (index_step separator c cs) at h))

pub index_most : (separator : ℕ) (l : List ℕ) → index_of separator l ≤ length l
unfolding index_of
index_most separator l = prefix_len-le-length (λ c. not (eqb c separator)) l

-- what a search for the separator finds
pub found_index : (separator : ℕ) (l : List ℕ) → position (λ c. eqb c separator) l ≡ cond (ltb (index_of separator l) (length l)) (Some (index_of separator l)) None
unfolding index_of
found_index separator l = refl

pub place_none : (separator : ℕ) (l : List ℕ) → None ≡ position (λ c. eqb c separator) l → index_of separator l ≡ length l
place_none separator l e =
    by_test (λ t. ltb (index_of separator l) (length l) ≡ t → None ≡ cond t (Some (index_of separator l)) None → index_of separator l ≡ length l) (ltb (index_of separator l) (length l))
    (λ _ _ f. let z : ◌≡◌ {A = ℕ} 0 1 = cc in absurd (omega arith))
    (λ _ i _. omega (arith, index_most separator l, ltb-false (index_of separator l) (length l) i))
    refl (e ∙ found_index separator l)

pub place_some : (separator : ℕ) (l : List ℕ) (e : ℕ) → Some e ≡ position (λ c. eqb c separator) l → (e ≡ index_of separator l) × (e < length l)
place_some separator l e f =
    by_test (λ t. ltb (index_of separator l) (length l) ≡ t → Some e ≡ cond t (Some (index_of separator l)) None → (e ≡ index_of separator l) × (e < length l)) (ltb (index_of separator l) (length l))
    (λ _ i g. let same : e ≡ index_of separator l = cc in (same, omega (arith, same, ltb-true (index_of separator l) (length l) i)))
    (λ _ _ g. let z : ◌≡◌ {A = ℕ} 0 1 = cc in absurd (omega arith))
    refl (f ∙ found_index separator l)

-- a line without a newline is the last, and one with it has lines after it
last_line : (l : List ℕ) (e : ℕ) → 0 < length l → e ≡ length l → without_empty_end (l ∷ []) ≡ take e l ∷ without_empty_end (parts_of newline (drop (suc e) l))
unfolding without_empty_end parts_of
last_line l e some last =
    let none : drop (suc e) l ≡ [] = drop_of_length-le l {i = suc e} (omega (arith, last)) in
    rw (none, last, take-length l, ne_eqb (length l) 0 (λ z. omega (arith, z)))

more_lines : (line rest : List ℕ) → without_empty_end (line ∷ parts_of newline rest) ≡ line ∷ without_empty_end (parts_of newline rest)
unfolding without_empty_end
more_lines line rest = let (part, parts, e) = parts_some newline rest in rw e

-- the first line of what is left
pub lines_next : (l : List ℕ) (e : ℕ) → 0 < length l → e ≡ index_of newline l → lines_of l ≡ take e l ∷ lines_of (drop (suc e) l)
unfolding lines_of without_empty_end
lines_next l e some place =
    same_or (without_empty_end (parts_of newline l) ≡ take e l ∷ without_empty_end (parts_of newline (drop (suc e) l))) e (length l)
    (λ last. rw (parts_end newline l (sym place ∙ last)) (last_line l e some last))
    (λ more. rw (parts_more newline l (omega (arith, place, index_most newline l)), ← place) (more_lines (take e l) (drop (suc e) l)))

pub no_lines : (l : List ℕ) → length l ≡ 0 → lines_of l ≡ []
unfolding lines_of without_empty_end parts_of
no_lines [] h = refl
no_lines (c ∷ l) h = absurd (omega (arith, h))

pub line_first : (l : List ℕ) (e : ℕ) → Some e ≡ position (λ c. eqb c newline) l → lines_of l ≡ take e l ∷ lines_of (take (length l - (e + 1)) (drop (e + 1) l))
line_first l e found =
    let (place, more) = place_some newline l e found in
    rw (drop_part (e + 1) l, add-one e) (lines_next l e (omega (arith, more)) place)

pub line_last : (l : List ℕ) → 0 < length l → None ≡ position (λ c. eqb c newline) l → lines_of l ≡ l ∷ lines_of []
line_last l some none =
    let place = place_none newline l none in
    let rest : drop (suc (length l)) l ≡ [] = drop_of_length-le l {i = suc (length l)} (omega arith) in
    rw (take-length l, rest) at (lines_next l (length l) some (sym place))
