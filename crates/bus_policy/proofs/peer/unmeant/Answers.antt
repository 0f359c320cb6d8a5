use Rattle.std.proofs.Common.{◌≡◌, ◌++◌, ◌∷◌, [], Bool, List, ℕ, false, length, ap, ◌∙◌, rules, arith}
use Rattle.std.specs.Prelude.{replicate}
use Rattle.bus_policy.proofs.Flags.{map_none, replicate-next}
use Rattle.bus_policy.proofs.peer.unmeant.Goals as goal

pub loop-preserved : goal.loop-preserved
loop-preserved c = let items : c.push.new.self.items ≡ c.loop.flags.items ++ false ∷ [] = search rules in items ∙ ap (λ (l : List Bool). l ++ false ∷ []) c.loop.invariant ∙ replicate-next c.loop.counter

pub returns : goal.returns
returns c = let all : c.loop.counter ≡ length c.args.rules.now = omega arith in c.loop.invariant ∙ ap (λ (n : ℕ). replicate n false) all ∙ map_none c.args.rules.now
