use Rattle.fl_gen.specs.Made.{file_row, start_in}
use Rattle.fl_gen.proofs.Counting.{starts, series_push}
use Rattle.fl_gen.proofs.series.push_series.Goals as goal

pub loop-number-init : goal.loop-number-init
loop-number-init c = starts (file_row c.args.word.now (start_in c.args.series)) c.args.rows.now

pub loop-number-preserved : goal.loop-number-preserved
loop-number-preserved c = series_push (file_row c.args.word.now (start_in c.args.series)) c.loop-number.number c.args.rows.now c.loop-number.rows c.push.new.self c.in_ok-file_row.field-0 c.loop-number.invariant c.in_ok-push.ensures.ok c.in_ok-file_row.ensures
