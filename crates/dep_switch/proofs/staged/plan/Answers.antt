use Rattle.std.proofs.Common.{◌∙◌, ap}
use Rattle.fp_small.specs.declared.state.State.{State}
use Rattle.dep_switch.specs.Rows.{with_row}
use Rattle.dep_switch.proofs.staged.plan.Goals as goal

pub returns : goal.returns
returns c =
    let parts = c.in_ok-parts.ensures in
    record {
      deploy = parts.deploy;
      says = parts.says;
      short = parts.short;
      text = parts.text;
      leads = record { from = parts.from; to = parts.to; state = c.in_ok-state.ensures.state ∙ ap (λ (s : State). with_row s c.args.row) c.take.ensures };
      name = c.in_ok-state.ensures.good;
      digits = parts.digits;
    }
