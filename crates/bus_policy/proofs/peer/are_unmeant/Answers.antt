use Rattle.std.proofs.Common.{◌≡◌, ◌∙◌, Bool, List, arith, sym, ap, get_or, false}
use Rattle.bus_policy.proofs.Keeping.{all_false, none_raised}
use Rattle.bus_policy.proofs.peer.are_unmeant.Goals as goal

pub returns-then-flag-clause-raised : goal.returns-then-flag-clause-raised
returns-then-flag-clause-raised c = λ is.
    let at = c.loop-flag.flag-index in
    sym (none_raised c.args.rules.now at) ∙ sym (ap (λ (flags : List Bool). get_or flags at false) is) ∙ c.if-flag.true

pub returns-clause-blank : goal.returns-clause-blank
returns-clause-blank c = λ e. all_false c.args.flags.now c.args.rules.now (omega arith) (λ i lt. c.loop-flag.invariant i (omega arith))
