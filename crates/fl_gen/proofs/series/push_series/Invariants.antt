use Rattle.std.proofs.Common.{◌≡◌, ◌++◌}
use Rattle.fl_gen.specs.Made.{each_of, file_row, start_in}
use Rattle.fl_gen.proofs.series.push_series.Given as goal

abbrev pub invariant-loop-number : goal.invariant-loop-number
invariant-loop-number l = l.rows ≡ l.fn.rows ++ each_of (file_row l.word (start_in l.series)) l.number
