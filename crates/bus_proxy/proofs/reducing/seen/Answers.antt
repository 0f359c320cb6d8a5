use Rattle.std.proofs.Common.{◌≡◌, ◌≤◌, ◌++◌, ◌∷◌, [], ℕ, List, length, sym, subst, ◌∙◌}
use Rattle.bus_frame.specs.Writing.{elements_bytes}
use Rattle.bus_policy.specs.declared.level.Level.TheVariants as level
use Rattle.bus_policy.specs.Levels.{is_at_least}
use Rattle.bus_policy.specs.Watching.{rules_of, client_of, level_after}
use Rattle.bus_proxy.proofs.Seeing.{one_seen, one_unseen}
use Rattle.bus_proxy.proofs.Shorter.{both_more, one_more}
use Rattle.bus_proxy.proofs.reducing.seen.Goals as goal

pub loop-name-preserved-in-Continue-1 : goal.loop-name-preserved-in-Continue-1
loop-name-preserved-in-Continue-1 g c =
    let w = c.args.watch.now in
    let before = c.loop-name.seen.items in
    let name = c.in-Some.name in
    let pushed : c.push.new.self.items ≡ before ++ name ∷ [] = c.in_ok-push.ensures.items in
    record {
      names = λ owners noted at.
          pushed
          ∙ one_seen (λ (n : List ℕ). is_at_least level.See (level_after (rules_of w) (client_of w) owners noted n)) before c.loop-name.yielded name (c.loop-name.invariant.names owners noted at) (sym (c.is_seen.ensures owners noted at) ∙ c.if-is_seen.true);
      shorter = λ little at.
          subst (λ (l : List (List ℕ)). length (elements_bytes little at l) ≤ length (elements_bytes little at (c.loop-name.yielded ++ name ∷ []))) (sym pushed)
          (both_more little at before c.loop-name.yielded name (c.loop-name.invariant.shorter little at));
    }

pub loop-name-preserved : goal.loop-name-preserved
loop-name-preserved g c =
    let w = c.args.watch.now in
    let before = c.loop-name.seen.items in
    let name = c.in-Some.name in
    record {
      names = λ owners noted at.
          one_unseen (λ (n : List ℕ). is_at_least level.See (level_after (rules_of w) (client_of w) owners noted n)) before c.loop-name.yielded name (c.loop-name.invariant.names owners noted at) (sym (c.is_seen.ensures owners noted at) ∙ c.if-is_seen.false);
      shorter = λ little at. one_more little at before c.loop-name.yielded name (c.loop-name.invariant.shorter little at);
    }
