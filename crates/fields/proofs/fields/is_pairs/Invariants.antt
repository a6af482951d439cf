use mathlib.Core.Path.{◌≡◌}
use mathlib.Core.Bool.{◌&&◌}
use lib.ListN.{drop}
use Rattle.std.specs.List.{list_all}
use Rattle.fields.specs.Fields.{is_pairs, is_hex}
use Rattle.fields.proofs.fields.is_pairs.Given as goal

abbrev pub invariant-loop-c : goal.invariant-loop-c
invariant-loop-c l = (l.well_formed && list_all is_hex (drop l.c-index l.field)) ≡ is_pairs l.field
