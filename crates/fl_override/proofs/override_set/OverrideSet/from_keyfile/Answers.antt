use Rattle.std.proofs.Common.{[], sym, subst}
use Rattle.fp_base.proofs.Lists.{all_append}
use Rattle.fl_override.specs.Written.{CanWrite}
use Rattle.fl_override.specs.Overrides.{AllCanWrite}
use Rattle.fl_override.proofs.Reading.{file_written}
use Rattle.fl_override.proofs.Sets.{last_written}
use Rattle.fl_override.proofs.override_set.OverrideSet.from_keyfile.Goals as goal

pub invariant_of-result : goal.invariant_of-result
invariant_of-result c =
    let read : AllCanWrite c.in_ok-layer.layer = subst AllCanWrite (sym c.in_ok-layer.ensures) (file_written c.args.file.now c.groups-groups.ensures.good) in
    last_written c.in_ok-fold.field-0 _ c.in_ok-fold.ensures.ascending c.in_ok-fold.ensures.last (all_append CanWrite c.in_ok-layer.layer [] read tt)
