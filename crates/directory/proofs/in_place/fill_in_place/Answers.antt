use mathlib.Core.Path.{◌∙◌, ap}
use Rattle.directory.specs.declared.steps.Directory.{Directory}
use Rattle.directory.specs.Steps.{after_use, after_fill}
use Rattle.directory.proofs.in_place.fill_in_place.Goals as goal

pub returns : goal.returns
unfolding after_fill
returns c cd nw ranges =
    let a = c.args in
    c.use_in_place.ensures _ _ cd nw ranges ∙ ap (λ (d : Directory). after_use d a.set a.way) (c.line_in_place.ensures _ cd nw ranges)
