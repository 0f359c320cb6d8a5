use Rattle.std.proofs.Common.{◌≡◌, ◌∙◌, ◌∷◌, ℕ, List, Option, ap, sym, subst}
use Rattle.bus_policy.specs.declared.policy.PolicyRule.{PolicyRule}
use Rattle.bus_policy.specs.declared.verdict.Verdict.{Verdict}
use Rattle.bus_policy.specs.Events.{Judged}
use Rattle.bus_policy.specs.Watching.{WatchAt, level_after, verdict_after, event}
use Rattle.bus_proxy.specs.Outs.{out_by, judged_by}
use Rattle.bus_proxy.specs.Filters.{given_by}
use Rattle.bus_proxy.proofs.judge.Judge.take.Goals as goal

pub returns : goal.returns
returns g c = λ s before at.
    let side = c.args.side in
    let h = c.args.header.now in
    let message = c.args.message in
    let noted = judged_by s before in
    let v = c.verdict-verdict.result in
    let verdict_is : v ≡ verdict_after s.rules s.client s.owners noted (event side h message) =
    c.verdict-verdict.ensures s.owners noted at.watch
    ∙ (λ i. verdict_after (at.rules i) (at.client i) s.owners noted (event side h (c.as_slice.ensures i))) in
    let gave = c.in_ok-instead.ensures s.owners noted at.watch in
    let out_is =
    c.given.ensures
    ∙ ap (λ (bytes : List ℕ). given_by v side bytes c.in_ok-instead.instead) (sym c.as_slice-2.ensures)
    ∙ gave
    ∙ (λ i. out_by (level_after (at.rules i) (at.client i) s.owners noted) (at.named i) (event side h (c.as_slice-2.ensures i)) (verdict_is i)) in (
      out_is,
      record {
        watch = subst (λ (l : List Judged). WatchAt c.note.new.self s.owners l)
            (λ i. record { event = event side h (c.as_slice-3.ensures i); verdict = verdict_is i } ∷ noted)
            (c.in_ok-note.ensures.ok s.owners noted at.watch);
        rules = c.note.ensures.policy ∙ at.rules;
        client = c.note.ensures.client ∙ at.client;
        named = at.named;
      },
    )
