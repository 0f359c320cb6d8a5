use Rattle.std.proofs.Common.{subst}
use Rattle.std.specs.Prelude.{Result}
use Rattle.gv_value.specs.declared.value.GvValue.{GvValue}
use Rattle.gv_value.specs.Views.{plain}
use Rattle.ost_model.specs.Types.{dictionary_shape}
use Rattle.ost_object.specs.declared.error.ObjectError.{ObjectError}
use Rattle.ost_object.specs.Decodes.{Decodes}
use Rattle.ost_object.specs.Views.{commit_view, tree_at}
use Rattle.ost_object.proofs.OneCommit.{no_metadata}
use Rattle.ost_object.proofs.writing_commits.write_commit.Goals as goal

pub returns-in-Err : goal.returns-in-Err
returns-in-Err c = no_metadata (commit_view c.args.commit.now) c.in-Err.error c.in_ok-digests.ensures.good
    (subst (λ (r : Result GvValue ObjectError). Decodes r dictionary_shape (tree_at dictionary_shape c.args.commit.now.metadata)) c.in-Err.is c.metadata_of.ensures)
