use Rattle.std.proofs.Common.{◌≡◌, ℕ, List, [], Option, Some, None, ap, sym, ◌∙◌}
use Rattle.indexmap.specs.IndexMap.{get_by_text}
use Rattle.bus_policy.specs.declared.policy.PolicyRule.{PolicyRule}
use Rattle.bus_policy.specs.Watching.{Known, any_leave, rules_of, sight_of}
use Rattle.bus_policy.proofs.Leave.{no_flags}
use Rattle.bus_policy.proofs.Telling.{same_known}
use Rattle.bus_policy.proofs.watch.Watch.gives_leave.Goals as goal

pub returns-in-Some : goal.returns-in-Some
unfolding sight_of
returns-in-Some g c =
    let rules = rules_of c.args.self.now in
    let peer = c.args.peer.now in
    let there : get_by_text c.args.self.now.peers peer ≡ Some c.in-Some.kept.now = sym c.in-Some.ensures.value in
    c.any_gives_leave.ensures
    ∙ ap (λ (p : List ℕ). any_leave c.args.kind p c.args.header.now c.rules-rules.result.now c.deref.result.now) c.as_bytes.ensures.value
    ∙ ap (λ (rs : List PolicyRule). any_leave c.args.kind peer c.args.header.now rs c.deref.result.now) c.rules-rules.ensures
    ∙ ap (any_leave c.args.kind peer c.args.header.now rules) (c.deref.ensures.value ∙ ap (λ (k : Known). k.meant) (same_known rules _ _ (sym there)))

pub returns-in-None : goal.returns-in-None
unfolding sight_of
returns-in-None g c =
    let rules = rules_of c.args.self.now in
    let peer = c.args.peer.now in
    let none : get_by_text c.args.self.now.peers peer ≡ None = sym c.in-None.ensures.value in
    c.any_gives_leave-in-None.ensures
    ∙ ap (λ (p : List ℕ). any_leave c.args.kind p c.args.header.now c.rules-rules.result.now []) c.as_bytes-in-None.ensures.value
    ∙ ap (λ (rs : List PolicyRule). any_leave c.args.kind peer c.args.header.now rs []) c.rules-rules.ensures
    ∙ no_flags c.args.kind peer c.args.header.now rules
    ∙ ap (λ (k : Known). any_leave c.args.kind peer c.args.header.now rules k.meant) (same_known rules _ _ (sym none))
