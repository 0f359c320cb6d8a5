use Rattle.std.proofs.Common.{◌≡◌, ℕ, List, [], ◌∷◌, ◌++◌, Some, sym, ap, ◌∙◌, subst, rules}
use Rattle.gv_decode.specs.Decoded.{slices}
use Rattle.gv_decode.specs.Stepped.{elements_left}
use Rattle.gv_decode.proofs.Runs.{SoFar, so_far-more, slices-more}
use Rattle.gv_decode.proofs.Nexts.{step-is, goes-on}
use Rattle.gv_decode.proofs.cutting.gathered.Goals as goal

pub loop-children-preserved : goal.loop-children-preserved
loop-children-preserved c =
    let l = c.loop-children in
    let o = c.in_ok-child.field-0 in
    let x = c.in-Some.child in
    let others = c.in-Some.others in
    let whole = elements_left c.args.elements in
    let is : o ≡ Some (x, others) = search rules in
    let step = step-is o x others (elements_left l.left) is c.in_ok-child.ensures.found in
    let pushed : c.push.new.self.items ≡ l.children.items ++ x ∷ [] = search rules in
    record {
      ready = (goes-on o x others l.left is c.in_ok-child.ensures.ready).ready;
      so_far = subst (λ (cs : List (List ℕ)). SoFar cs (elements_left others) whole) (sym (ap slices pushed ∙ slices-more l.children.items x))
          (so_far-more (slices l.children.items) x.now (elements_left l.left) (elements_left others) whole l.invariant.so_far step);
    }
