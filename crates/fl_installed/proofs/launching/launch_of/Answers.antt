use Rattle.std.proofs.Common.{◌∙◌}
use Rattle.std.specs.Option.{option_copied}
use Rattle.fl_installed.proofs.Reading.{launch_from}
use Rattle.fl_installed.proofs.launching.launch_of.Goals as goal

pub returns : goal.returns
returns c =
    launch_from c.args.state.now c.args.name.now c.args.options.now c.args.parts.now c.in_ok-layer.layer (option_copied c.command_text-shown.result) c.in_ok-launch.launch
    c.in_ok-layer.ensures (c.command_text-shown.ensures ∙ c.in_ok-command.ensures) c.in_ok-launch.ensures.text c.in_ok-launch.ensures.grants
