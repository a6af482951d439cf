use mathlib.Core.Path.{◌∙◌}
use native.Mathlib.Omega.{arith}
use Rattle.fields.specs.Fields.{pair_bytes}
use Rattle.fields.proofs.Pairs.{front_count, pairs_length}
use Rattle.calls.specs.Calls.{step_by}
use Rattle.performing.proofs.Log.{own_log}
use Rattle.performing.proofs.perform_external.Goals as goal

pub slice_bounds-bytes-end : goal.slice_bounds-bytes-end
slice_bounds-bytes-end c = (front_count 80 _ (pair_bytes c.args.pairs.now) _ c.pair_bytes-count.ensures.0 c.pair_bytes-count.ensures.1 (omega (arith, pairs_length c.args.pairs.now, c.requires))).0

pub slice_bounds-external_write_in_place-end : goal.slice_bounds-external_write_in_place-end
slice_bounds-external_write_in_place-end c = (front_count 80 _ (pair_bytes c.args.pairs.now) _ c.pair_bytes-count.ensures.0 c.pair_bytes-count.ensures.1 (omega (arith, pairs_length c.args.pairs.now, c.requires))).1

pub returns : goal.returns
unfolding step_by
returns c cd array = rw (c.number_only.ensures, c.answer_of.ensures) (own_log _ _ _ _ (c.external_write_in_place.ensures cd array ∙ rw (front_count 80 _ (pair_bytes c.args.pairs.now) _ c.pair_bytes-count.ensures.0 c.pair_bytes-count.ensures.1 (omega (arith, pairs_length c.args.pairs.now, c.requires))).2))
