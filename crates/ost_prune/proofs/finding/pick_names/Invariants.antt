use Rattle.std.proofs.Common.{◌≤◌, ◌∷◌, List, ℕ, map}
use Rattle.std.specs.HashSet.{contains_text}
use Rattle.fp_host.specs.Frame.{AtEnd, Unchanged}
use Rattle.ost_prune.specs.Texts.{AreUsedTexts}
use Rattle.ost_prune.proofs.Found.{PicksSoFar}
use Rattle.ost_prune.proofs.finding.pick_names.Given as goal

abbrev pub invariant-loop-name : goal.invariant-loop-name
invariant-loop-name g l = record {
  still : Unchanged (g.H.Host.moments l.fn.host) (g.H.Host.moments l.host);
  later : g.H.Host.faults l.fn.host ≤ g.H.Host.faults l.host;
  picks : (keep : List (List ℕ)) → AtEnd (λ u w. AreUsedTexts l.root keep u (contains_text l.used) → PicksSoFar l.root keep (map (λ x. x ∷ l.folder) l.names) l.name-index u l.fn.found.items l.found.items)
      (g.H.Host.moments l.fn.host) (g.H.Host.moments l.host);
}
