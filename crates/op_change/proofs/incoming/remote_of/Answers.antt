use Rattle.std.proofs.Common.{List, ap, sym, ◌∙◌}
use Rattle.std.specs.Option.{option_copied}
use Rattle.fp_base.proofs.Options.{none_some}
use Rattle.fp_small.specs.Config.{name_of}
use Rattle.fp_small.specs.declared.state.RemoteRow.{RemoteRow}
use Rattle.dep_states.specs.Shown.{at_name}
use Rattle.op_change.proofs.Brought.{row_there}
use Rattle.op_change.proofs.incoming.remote_of.Goals as goal

pub unreachable-requires : goal.unreachable-requires
unreachable-requires c =
    let at = ap (λ (rows : List RemoteRow). at_name name_of rows c.args.name.now) c.as_slice.ensures in
    none_some (ap option_copied (sym c.in-None.is) ∙ c.find_remote.ensures ∙ at ∙ (row_there name_of c.args.state.now.remotes c.args.name.now c.requires).1)
