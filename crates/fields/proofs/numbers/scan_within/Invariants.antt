use Rattle.fields.proofs.Digits.{ScanInvariant}
use Rattle.fields.proofs.numbers.scan_within.Given as goal

abbrev pub invariant-loop-byte : goal.invariant-loop-byte
invariant-loop-byte l = ScanInvariant l.field l.value l.byte-index
