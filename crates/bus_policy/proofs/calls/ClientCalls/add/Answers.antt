use Rattle.std.proofs.Common.{◌≡◌, ◌∙◌, ℕ, Bool, Option, ap, sym, refl}
use Rattle.std.specs.Prelude.{nat_eq, nat_le, ◌||◌}
use Rattle.indexmap.specs.IndexMap.{get}
use Rattle.bus_policy.specs.Driver.{is_listing}
use Rattle.bus_policy.specs.Events.{wants_no_reply}
use Rattle.bus_policy.specs.Watching.{calls_with, is_up_to}
use Rattle.bus_policy.proofs.Calling.{calls_sent}
use Rattle.bus_policy.proofs.calls.ClientCalls.add.Goals as goal

pub returns-clause-ok : goal.returns-clause-ok
returns-clause-ok g c = λ noted bytes verdict call sent at.
    let h = c.args.header.now in
    let old = c.args.self.now in
    calls_sent old _ noted h bytes verdict (calls_with (wants_no_reply h) (is_listing h) c.is_used-reused.result (get nat_eq old.waiting h.serial)) call sent at
    (ap (λ (used : Bool). calls_with (wants_no_reply h) (is_listing h) used (get nat_eq old.waiting h.serial)) c.is_used-reused.ensures)
    (λ s. ap (λ m. get nat_eq m s) c.raise.ensures.waiting ∙ c.in_ok-put_call.ensures.ok s)
    (λ s. c.raise.ensures.highest s ∙ ap (λ (o : Option ℕ). nat_le s h.serial || is_up_to o s) c.in_ok-put_call.ensures.highest)
