use Rattle.std.proofs.Common.{◌≡◌, sym, ap, ◌∙◌, rules}
use Rattle.std.specs.Prelude.{option_and_then, Result, Ok}
use Rattle.gv_value.specs.Reading.{value_of}
use Rattle.ost_model.specs.Fields.{CommitView, commit_in}
use Rattle.ost_model.specs.Readers.{commit_breaks, judged}
use Rattle.ost_model.specs.Types.{commit_shape}
use Rattle.ost_object.specs.Views.{commit_view, parts_view, digests_view}
use Rattle.ost_object.proofs.Judging.{judged-good, judged-bad, judged-none, reads-err}
use Rattle.ost_object.proofs.reading_commits.read_commit.Goals as goal

pub returns-in_err-parts : goal.returns-in_err-parts
returns-in_err-parts c =
    let e = c.in_err-parts.field-0.0 in
    reads-err commit_view c.from_residual.result e _ c.from_residual.ensures.1 (judged-none e (option_and_then commit_in (value_of commit_shape c.args.bytes.now)) c.in_err-parts.ensures)

pub returns-in_err-digests : goal.returns-in_err-digests
returns-in_err-digests c =
    let e = c.in_err-digests.field-0.0 in
    let y = parts_view c.in_ok-parts.parts in
    let o = option_and_then commit_in (value_of commit_shape c.args.bytes.now) in
    reads-err commit_view c.from_residual-in_err-digests.result e _ c.from_residual-in_err-digests.ensures.1 (judged-bad o y c.in_ok-parts.ensures e c.in_err-digests.ensures)

pub whole_commit-requires : goal.whole_commit-requires
whole_commit-requires c =
    let y = parts_view c.in_ok-parts.parts in
    let o = option_and_then commit_in (value_of commit_shape c.args.bytes.now) in
    (judged-good o y c.in_ok-parts.ensures (digests_view c.in_ok-digests.digests) c.in_ok-digests.ensures).1

pub returns : goal.returns
returns c =
    let y = parts_view c.in_ok-parts.parts in
    let o = option_and_then commit_in (value_of commit_shape c.args.bytes.now) in
    (judged-good o y c.in_ok-parts.ensures (digests_view c.in_ok-digests.digests) c.in_ok-digests.ensures).0 ∙ ap (λ (v : CommitView). Ok v) (sym c.in_ok-whole_commit.ensures)
