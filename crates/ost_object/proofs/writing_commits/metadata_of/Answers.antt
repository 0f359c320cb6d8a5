use Rattle.std.proofs.Common.{List, ℕ, subst}
use Rattle.gv_value.specs.Reading.{value_of}
use Rattle.gv_value.specs.Shape.{Shape, no_shapes, shape}
use Rattle.gv_value.specs.Views.{plain}
use Rattle.ost_model.specs.Contents.{bytes_shape}
use Rattle.ost_model.specs.Types.{text_shape, dictionary_shape}
use Rattle.ost_object.specs.Answers.{Finds}
use Rattle.ost_object.specs.Entries.{entry_shape}
use Rattle.ost_object.proofs.Kept.{decodes}
use Rattle.ost_object.proofs.writing_commits.metadata_of.Goals as goal

pub returns : goal.returns
returns c = decodes (entry_shape) c.args.commit.now.metadata c.value_of.result
    (subst (λ (bytes : List ℕ). Finds plain c.value_of.result (value_of dictionary_shape bytes)) c.as_slice.ensures
    (subst (λ (s : Shape). Finds plain c.value_of.result (value_of s c.as_slice.result.now)) c.in_ok-of.ensures c.value_of.ensures))
