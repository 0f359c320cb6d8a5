-- What only looks: of a moment of it only what was printed is told, and that nothing else changed.
use Rattle.std.proofs.Common.{Result}
use Rattle.fp_host.specs.Paths.{Elements}
use Rattle.fp_host.specs.View.{View}
use Rattle.fp_host.specs.Outcome.{shows}
use Rattle.ost_fsck.specs.declared.report.Report.{Report}
use Rattle.fl_change.specs.World.{World}
use Rattle.fl_change.specs.Answer.{Answer}
use Rattle.fl_change.specs.Changes.{IsUntouched}
use Rattle.fl_top.specs.Answer.{shown_answer, checked}
use Rattle.fl_top.specs.Counting.{EachOver}
use Rattle.fl_top.specs.Fsck.{Finds}
use Rattle.fl_top.specs.Moment.{Runs, RunsLook, RunsCheck}
use Rattle.fl_top.proofs.Altering.{alter_untouched}

pub still_look : (by : Result World Elements → Answer) {u w : View} → EachOver by u (λ a. Runs a u w) → IsUntouched u w → RunsLook by u w
still_look by runs untouched = record {
  changes = λ known. alter_untouched untouched;
  runs = λ shown counts held. runs shown counts;
  rests = λ change. absurd change;
  untouched = λ why. untouched;
}

pub still_check : {u w : View} → ((report : Report) → Finds (shows u) report → EachOver (shown_answer (checked report)) u (λ a. Runs a u w)) → IsUntouched u w → RunsCheck u w
still_check runs untouched = record {
  changes = λ known. alter_untouched untouched;
  runs = λ report finds shown counts held. runs report finds shown counts;
  rests = λ change. absurd change;
  untouched = λ why. untouched;
}
