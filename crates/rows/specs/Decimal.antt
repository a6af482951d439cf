-- Document 01, 'Board table and program': the text of a number.
use Rattle.std.specs.Prelude.{ℕ, zero, suc, ◌+◌, ◌/◌, ◌%◌, cond, List, [], ◌∷◌, ◌++◌, ltb}

-- The usual decimal text of a number: the text of its tenth, if that is not 0, then its last digit; at most so many digits.
unfoldable pub digits_of : ℕ → ℕ → List ℕ
digits_of zero n = []
digits_of (suc most) n = cond (ltb n 10) [] (digits_of most (n / 10)) ++ ((48 + n % 10) ∷ [])

-- All of its digits: one more than the number itself is always room enough.
unfoldable pub decimal : ℕ → List ℕ
decimal n = digits_of (suc n) n
