use Rattle.std.proofs.Common.{ap, ◌∙◌}
use Rattle.fp_keyfile.specs.KeyFile.{is_good}
use Rattle.fl_override.specs.Written.{file_with}
use Rattle.fl_override.proofs.Back.{reads_back}
use Rattle.fl_override.proofs.Files.{file_good}
use Rattle.fl_override.proofs.override_set.OverrideSet.to_keyfile.Goals as goal

pub returns-in_err-groups-clause-reads_back : goal.returns-in_err-groups-clause-reads_back
returns-in_err-groups-clause-reads_back c = reads_back c.self.inside.mentions c.args.self.now c.self.view_is c.as_slice.ensures.ascending c.self.invariant

pub from_groups-requires : goal.from_groups-requires
from_groups-requires c = ap is_good (c.in_ok-groups.ensures ∙ ap file_with c.as_slice.ensures.mentions) ∙ file_good c.self.inside.mentions c.as_slice.ensures.ascending c.self.invariant

pub returns-clause-reads_back : goal.returns-clause-reads_back
returns-clause-reads_back c = reads_back c.self.inside.mentions c.args.self.now c.self.view_is c.as_slice.ensures.ascending c.self.invariant
