use Rattle.std.proofs.Common.{subst, refl, ◌≡◌}
use Rattle.std.specs.Prelude.{Result}
use Rattle.gv_value.specs.declared.value.GvValue.{GvValue}
use Rattle.gv_value.specs.Views.{plain}
use Rattle.ost_model.specs.Fields.{commit_in, text_value}
use Rattle.ost_model.specs.Readers.{commit_breaks}
use Rattle.ost_model.specs.Types.{related_shape, commit_shape}
use Rattle.ost_object.specs.declared.error.ObjectError.{ObjectError}
use Rattle.ost_object.specs.Decodes.{Decodes}
use Rattle.ost_object.specs.Values.{time_value}
use Rattle.ost_object.specs.Views.{commit_view, tree_at}
use Rattle.ost_object.proofs.OneCommit.{commit_value, no_related, commit_is, commit_says, same_members}
use Rattle.ost_object.proofs.Written.{written, spells_as}
use Rattle.ost_object.proofs.writing_commits.with_metadata.Goals as goal

pub returns-in-Ok : goal.returns-in-Ok
returns-in-Ok c =
    let y = commit_view c.args.commit.now in
    let related : plain c.in-Ok.related ≡ tree_at related_shape c.args.commit.now.related =
    subst (λ (r : Result GvValue ObjectError). Decodes r related_shape (tree_at related_shape c.args.commit.now.related)) c.in-Ok.is c.related_of.ensures in
    written commit_shape commit_in commit_breaks c.spelled_commit.result y (commit_value y) c.requires.good
    (commit_says y c.spelled_commit.ensures.small) (commit_is y)
    (spells_as c.spelled_commit.result commit_shape commit_shape _ (commit_value y) refl
    (same_members (text_value c.args.commit.now.subject) (text_value c.args.commit.now.body) (time_value c.args.commit.now.timestamp)
    _ _ _ _ _ _ _ _ _ _ c.requires.metadata c.requires.parent related c.requires.tree c.requires.meta)
    c.spelled_commit.ensures.spelled)

pub returns-in-Err : goal.returns-in-Err
returns-in-Err c = no_related (commit_view c.args.commit.now) c.in-Err.error c.requires.good
    (subst (λ (r : Result GvValue ObjectError). Decodes r related_shape (tree_at related_shape c.args.commit.now.related)) c.in-Err.is c.related_of.ensures)
