use Rattle.std.proofs.Common.{◌≡◌}
use Rattle.board.specs.Board.{board_answers}
use Rattle.board.proofs.Answers.{filled_from}
use Rattle.board.proofs.board_answers.Given as goal

abbrev pub invariant-loop-group : goal.invariant-loop-group
invariant-loop-group l = filled_from l.table l.address l.width l.group l.answers ≡ board_answers l.table l.address l.width
