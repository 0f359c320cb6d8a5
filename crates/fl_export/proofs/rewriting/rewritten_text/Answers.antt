use Rattle.std.proofs.Common.{◌∙◌, List, ap, sym, subst}
use Rattle.std.specs.Prelude.{IsTrue}
use Rattle.fp_keyfile.specs.declared.group.Group.{Group}
use Rattle.fp_keyfile.specs.KeyFile.{is_good}
use Rattle.fl_export.specs.Rewritten.{rewritten_file}
use Rattle.fl_export.proofs.Launches.{good_rewritten}
use Rattle.fl_export.proofs.rewriting.rewritten_text.Goals as goal

pub from_groups-requires : goal.from_groups-requires
from_groups-requires c =
    subst (λ (file : List Group). IsTrue (is_good file)) (sym (c.from_vec.ensures ∙ c.in_ok-groups.ensures ∙ ap (rewritten_file c.args.name.now) (c.as_slice.ensures ∙ c.groups.ensures.groups)))
    (good_rewritten c.args.name.now c.as_str-ref_text.ensures.good c.args.file.now c.groups.ensures.good)
