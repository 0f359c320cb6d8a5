use Rattle.std.proofs.Common.{◌≡◌, sym, ◌∙◌, Some}
use Rattle.std.proofs.lemmas.Result.{on_ok_weaker, IfErr-weaker}
use Rattle.fp_base.specs.declared.object.ObjKind.TheVariants as kinds
use Rattle.ost_commit.specs.Digests.{object_by}
use Rattle.ost_commit.proofs.Reading.{row_good}
use Rattle.ost_commit.proofs.Holding.{contents_more, contents_same, fault_of_put}
use Rattle.ost_commit.proofs.contents.add_row.Goals as goal

pub returns-in-Some-clause-adds : goal.returns-in-Some-clause-adds
returns-in-Some-clause-adds c =
    let by : object_by c.args.row.now ≡ Some c.in-Some.object = sym c.in_ok-object.ensures ∙ c.in-Some.is in
    on_ok_weaker c.put.result (λ puts before held. contents_more before c.args.row.now c.args.contents.now.entries c.put.new.table.entries c.args.digest c.in-Some.object held c.requires.good c.requires.digest by puts) c.put.ensures.put

pub returns-in-Some-clause-error : goal.returns-in-Some-clause-error
returns-in-Some-clause-error c =
    let by : object_by c.args.row.now ≡ Some c.in-Some.object = sym c.in_ok-object.ensures ∙ c.in-Some.is in
    IfErr-weaker c.put.result _ _ (λ e h. fault_of_put ⊥ kinds.File c.args.contents.now.entries c.args.digest c.in-Some.object e c.requires.usable (row_good c.args.row.now c.args.digest c.in-Some.object c.requires.good c.requires.digest by) h) c.put.ensures.error

pub returns-in-None-clause-adds : goal.returns-in-None-clause-adds
returns-in-None-clause-adds c before held = contents_same before c.args.row.now c.args.contents.now.entries held (sym c.in_ok-object.ensures ∙ c.in-None.is)
