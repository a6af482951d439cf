use lib.ListN.{get_or}
use mathlib.Core.Path.{sym, ◌∙◌, ap}
use Rattle.directory.specs.Steps.{after_snoop}
use Rattle.directory.specs.declared.steps.Directory.{Directory}
use Rattle.carrying_calls.proofs.Snoops.{snooped_none, snooped_next}
use Rattle.carrying_calls.proofs.in_place.snoop_in_place.Goals as goal

pub loop-k-init : goal.loop-k-init
loop-k-init c lru cd ranges = sym (snooped_none _ _ _)

pub loop-k-preserved : goal.loop-k-preserved
loop-k-preserved c lru cd ranges =
    c.invalidate_in_place.ensures lru cd ranges
    ∙ ap (λ (d : Directory). after_snoop d (get_or c.args.carried.addresses c.loop-k.k 0)) (c.loop-k.invariant lru cd ranges)
    ∙ sym (snooped_next _ _ _ _ c.loop-k.auto.k)
