use Rattle.std.proofs.Common.{rules, ◌≡◌, ℕ, Option, Some, None, ap, ◌∙◌}
use Rattle.fp_base.specs.declared.side.Side.{Side}
use Rattle.bus_proxy.proofs.Ending.{cut_of, ends}
use Rattle.bus_proxy.proofs.proxy.Filter.end.Goals as goal

pub returns-in-Some-clause-at : goal.returns-in-Some-clause-at
returns-in-Some-clause-at g c = λ s fed taken given at all.
    let is : c.rest.result ≡ Some (c.in-Some.side, c.in-Some.index) = search rules in
    ends c.args.self.now.streams fed taken c.rest.result at.streams all.all all.sound c.rest.ensures ∙ ap cut_of is

pub returns-in-None-clause-at : goal.returns-in-None-clause-at
returns-in-None-clause-at g c = λ s fed taken given at all.
    let is : c.rest.result ≡ None = search rules in
    ends c.args.self.now.streams fed taken c.rest.result at.streams all.all all.sound c.rest.ensures ∙ ap cut_of is
