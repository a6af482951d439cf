use Rattle.events.proofs.run_program.Goals as goal

pub returns : goal.returns
returns c = rw c.block_answers.ensures at c.run.ensures
