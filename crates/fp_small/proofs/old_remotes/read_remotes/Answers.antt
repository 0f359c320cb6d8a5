use Rattle.std.proofs.Common.{◌≡◌, ◌∙◌, ap, sym, subst, Option, Some, List}
use Rattle.std.specs.Prelude.{IfOk}
use Rattle.fp_small.specs.declared.state.RemoteRow.{RemoteRow}
use Rattle.fp_small.specs.Old.{remotes_of, remotes_seen}
use Rattle.fp_small.proofs.OldReads.{remotes_is, no_remotes, ok_rows}
use Rattle.fp_small.proofs.old_remotes.read_remotes.Goals as goal

pub returns-in_err-file-clause-bad : goal.returns-in_err-file-clause-bad
returns-in_err-file-clause-bad c = λ bad. no_remotes c.args.bytes.now c.in_err-file.field-0.0 c.from_residual.result c.from_residual.ensures.1 bad c.in_err-file.ensures

pub returns-clause-ok : goal.returns-clause-ok
returns-clause-ok c =
    let e : remotes_of c.args.bytes.now ≡ remotes_seen c.as_slice.result.now = remotes_is c.args.bytes.now c.in_ok-file.file c.in_ok-file.ensures ∙ ap remotes_seen (sym (c.as_slice.ensures ∙ c.groups.ensures.groups)) in
    subst (λ (o : Option (List RemoteRow)). IfOk c.rows_of.result (λ rows. o ≡ Some rows)) (sym e) c.rows_of.ensures.ok

pub returns-clause-good : goal.returns-clause-good
returns-clause-good c =
    let e : remotes_of c.args.bytes.now ≡ remotes_seen c.as_slice.result.now = remotes_is c.args.bytes.now c.in_ok-file.file c.in_ok-file.ensures ∙ ap remotes_seen (sym (c.as_slice.ensures ∙ c.groups.ensures.groups)) in
    ok_rows c.args.bytes.now c.rows_of.result (subst (λ (o : Option (List RemoteRow)). IfOk c.rows_of.result (λ rows. o ≡ Some rows)) (sym e) c.rows_of.ensures.ok)

pub returns-clause-bad : goal.returns-clause-bad
returns-clause-bad c =
    let e : remotes_of c.args.bytes.now ≡ remotes_seen c.as_slice.result.now = remotes_is c.args.bytes.now c.in_ok-file.file c.in_ok-file.ensures ∙ ap remotes_seen (sym (c.as_slice.ensures ∙ c.groups.ensures.groups)) in
    λ bad. e ∙ c.rows_of.ensures.bad bad
