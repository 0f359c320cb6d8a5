use Rattle.std.proofs.Common.{ℕ, List, ap, sym, subst, ◌∙◌}
use Rattle.fp_base.specs.declared.object.ObjKind.TheVariants as kinds
use Rattle.ost_model.specs.declared.object.Object.TheVariants as objects
use Rattle.ost_model.specs.Readers.{commit_read}
use Rattle.ost_object.specs.Answers.{Breaks, mapped}
use Rattle.ost_object.specs.Views.{root_in, root_view}
use Rattle.ost_object.proofs.Roots.{commit_reads}
use Rattle.ost_walk.specs.declared.ends.WalkEnd.{WalkEnd}
use Rattle.ost_walk.specs.Ends.{RefusesBy, IsFaultOf}
use Rattle.ost_head.specs.Objects.{rules_fault}
use Rattle.ost_head.proofs.Judged.{commit_breaks}
use Rattle.ost_head.proofs.judging.check_commit.Goals as goal

pub returns-in-Ok-clause-tells : goal.returns-in-Ok-clause-tells
returns-in-Ok-clause-tells c = commit_reads (commit_read c.args.bytes.now) (root_view c.in-Ok.field-0) (ap (λ (b : List ℕ). mapped root_in (commit_read b)) (sym c.as_slice.ensures) ∙ c.in-Ok.ensures)

pub returns-in-Err-clause-tells : goal.returns-in-Err-clause-tells
returns-in-Err-clause-tells c =
    subst (λ (e : WalkEnd). RefusesBy (IsFaultOf c.args.digest.now kinds.Commit (rules_fault kinds.Commit (objects.Meta c.args.bytes.now))) e) (sym c.unread.ensures)
    (commit_breaks c.args.digest.now (commit_read c.args.bytes.now) c.in-Err.error (subst (λ (b : List ℕ). Breaks c.in-Err.error (mapped root_in (commit_read b))) c.as_slice.ensures c.in-Err.ensures))
