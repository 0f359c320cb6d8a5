use Rattle.std.proofs.Common.{◌≡◌, ◌++◌, ◌∷◌, map, take}
use Rattle.fp_small.proofs.walking.add_names.Given as goal

abbrev pub invariant-loop-name : goal.invariant-loop-name
invariant-loop-name l = l.paths.items ≡ l.fn.paths.items ++ map (λ x. x ∷ l.folder) (take l.name-index l.names)
