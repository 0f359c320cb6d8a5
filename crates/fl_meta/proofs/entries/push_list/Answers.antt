use Rattle.fl_meta.proofs.Whole.{left_shorter}
use Rattle.fl_meta.proofs.entries.push_list.Goals as goal

pub loop-left-smaller : goal.loop-left-smaller
loop-left-smaller c = rw c.in-Some.is (left_shorter c.first_entry.result.1 _ c.first_entry.ensures.shorter)
