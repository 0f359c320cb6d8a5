use Rattle.std.proofs.Common.{◌≡◌, ℕ, List, sym, ap, ◌∙◌, subst}
use Rattle.std.specs.Prelude.{option_and_then, Result, Ok}
use Rattle.gv_value.specs.Reading.{value_of}
use Rattle.ost_model.specs.Fields.{CommitView, commit_in}
use Rattle.ost_model.specs.Readers.{commit_breaks, judged, kept}
use Rattle.ost_model.specs.Types.{commit_shape}
use Rattle.ost_object.specs.declared.commit_parts.CommitDigests.{CommitDigests}
use Rattle.ost_object.specs.declared.error.ObjectError.{ObjectError}
use Rattle.ost_object.specs.Answers.{Breaks, Reads, mapped}
use Rattle.ost_object.specs.Views.{parts_view, digests_view, digests_in, root_view, root_in}
use Rattle.ost_object.proofs.Judging.{judged-good, judged-bad, judged-none, breaks-mapped, reads-err}
use Rattle.ost_object.proofs.reading_commits.commit_root.Goals as goal

pub returns-in_err-parts : goal.returns-in_err-parts
returns-in_err-parts c =
    let e = c.in_err-parts.field-0.0 in
    let o = option_and_then commit_in (value_of commit_shape c.args.bytes.now) in
    reads-err root_view c.from_residual.result e _ c.from_residual.ensures.1 (breaks-mapped root_in e (judged commit_breaks o) (judged-none e o c.in_err-parts.ensures))

pub returns-in-Ok : goal.returns-in-Ok
returns-in-Ok c =
    let y = parts_view c.in_ok-parts.parts in
    let o = option_and_then commit_in (value_of commit_shape c.args.bytes.now) in
    let read : kept (commit_breaks y) (digests_in y) ≡ Ok (digests_view c.in-Ok.digests) =
    subst (λ (r : Result CommitDigests ObjectError). Reads digests_view r (kept (commit_breaks y) (digests_in y))) c.in-Ok.is c.commit_digests.ensures in
    let good = judged-good o y c.in_ok-parts.ensures (digests_view c.in-Ok.digests) read in
    ap (mapped root_in) good.0 ∙ ap (λ (d : List ℕ × List ℕ × List ℕ). Ok (d.1, d.2)) (sym good.1)

pub returns-in-Err : goal.returns-in-Err
returns-in-Err c =
    let y = parts_view c.in_ok-parts.parts in
    let o = option_and_then commit_in (value_of commit_shape c.args.bytes.now) in
    let e = c.in-Err.error in
    let bad : Breaks e (kept (commit_breaks y) (digests_in y)) =
    subst (λ (r : Result CommitDigests ObjectError). Reads digests_view r (kept (commit_breaks y) (digests_in y))) c.in-Err.is c.commit_digests.ensures in
    breaks-mapped root_in e (judged commit_breaks o) (judged-bad o y c.in_ok-parts.ensures e bad)
