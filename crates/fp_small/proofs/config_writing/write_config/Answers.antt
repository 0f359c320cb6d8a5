use Rattle.std.proofs.Common.{◌≡◌, ◌∙◌, List, sym, subst}
use Rattle.std.specs.Prelude.{IfOk, IsTrue}
use Rattle.fp_keyfile.specs.declared.group.Group.{Group}
use Rattle.fp_keyfile.specs.KeyFile.{text_of, is_good}
use Rattle.fp_small.specs.declared.config.Settings.{Settings}
use Rattle.fp_small.specs.Config.{config_text}
use Rattle.fp_small.proofs.ConfigTexts.{good_written, written_back}
use Rattle.fp_small.proofs.config_writing.write_config.Goals as goal

pub returns-in_err-groups-clause-reads_back : goal.returns-in_err-groups-clause-reads_back
returns-in_err-groups-clause-reads_back c = let s : Settings = record { remotes = c.args.remotes.now; pins = c.args.pins.now } in written_back s c.requires

pub from_groups-requires : goal.from_groups-requires
from_groups-requires c =
    let s : Settings = record { remotes = c.args.remotes.now; pins = c.args.pins.now } in
    subst (λ (file : List Group). IsTrue (is_good file)) (sym (c.from_vec.ensures ∙ c.in_ok-groups.ensures)) (good_written s c.requires)

pub returns-clause-text : goal.returns-clause-text
unfolding config_text
returns-clause-text c = subst (λ (file : List Group). IfOk c.write-2.result (λ t. t ≡ text_of file)) (c.from_groups.ensures ∙ c.from_vec.ensures ∙ c.in_ok-groups.ensures) c.write-2.ensures.text

pub returns-clause-reads_back : goal.returns-clause-reads_back
returns-clause-reads_back c = let s : Settings = record { remotes = c.args.remotes.now; pins = c.args.pins.now } in written_back s c.requires
