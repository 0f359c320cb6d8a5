use Rattle.std.proofs.Common.{◌≡◌, ◌∙◌, ◌++◌, ◌∷◌, ◌-◌, [], suc, List, ℕ, ap, sym, arith, drop}
use Rattle.fp_small.specs.Folders.{ancestors}
use Rattle.fp_small.proofs.Replacement.{last_ancestor, next_ancestor}
use Rattle.fp_small.proofs.replacing.ancestors.Goals as goal

pub loop-up-init : goal.loop-up-init
loop-up-init c = record {
  so_far = c.new-folders.ensures.items ∙ sym (ap (λ k. ancestors (drop (k - 1) c.args.path.now)) c.len-up.ensures ∙ last_ancestor c.args.path.now);
  low = omega arith;
}

pub loop-up-preserved : goal.loop-up-preserved
loop-up-preserved c =
    let p = c.args.path.now in
    let up = c.loop-up.up in
    let is : up - 1 ≡ suc (up - 1 - 1) = omega arith in
    let low = c.loop-up.invariant.low in
    record {
      so_far = c.in_ok-push.ensures.items ∙ ap (λ (l : List (List (List ℕ))). l ++ c.in_ok-folder.field-0 ∷ []) c.loop-up.invariant.so_far ∙ ap (λ (q : List (List ℕ)). ancestors (drop (up - 1) p) ++ q ∷ []) c.in_ok-folder.ensures
          ∙ ap (λ k. ancestors (drop k p) ++ drop k p ∷ []) is ∙ sym (next_ancestor p (up - 1 - 1) (omega arith));
      low = omega arith;
    }
