-- Laws of bytes in lists: bytes read, and bytes put in from a place on.
use Prim.Native.Nat.{ℕ, ◌≤◌}
use mathlib.Core.Path.{◌≡◌, ◌∙◌, ap}
use native.Mathlib.Omega.{arith}
use native.Mathlib.Nat.{div-one}
use Rattle.words.specs.Bytes.{bytes_at, bytes_of}
use Rattle.words.proofs.Numbers.{bytes_of_part}
use Rattle.bus.specs.Groups.{widest}
use Rattle.access.specs.Access.{operand_of}

-- the first bytes of an operand are the bytes of its value
pub operand_bytes : (v n : ℕ) → n ≤ widest → bytes_at (operand_of v) 0 n ≡ bytes_of n v
operand_bytes v n h = bytes_of_part widest v 0 n (omega (arith, h)) ∙ ap (bytes_of n) (div-one v)
