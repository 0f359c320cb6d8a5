use Rattle.std.proofs.Common.{Some, ◌∷◌, sym, ap, ◌∙◌, subst}
use Rattle.std.specs.HashSet.{contains_text}
use Rattle.fp_host.specs.Paths.{Elements}
use Rattle.fp_host.proofs.Ending.{ends_start, ends_to}
use Rattle.ost_store.specs.Names.{IsNamed}
use Rattle.ost_store.specs.Reads.{IsThere}
use Rattle.ost_prune.proofs.Before.{child_text, child_back}
use Rattle.ost_prune.proofs.Found.{used_there, object_there, object_away}
use Rattle.ost_prune.proofs.finding.unused_at.Goals as goal

pub returns-then-branch-clause-tells : goal.returns-then-branch-clause-tells
returns-then-branch-clause-tells g c keep =
    let x = c.args.name.now in
    let p = c.args.folder.now in
    let back = child_back x p c.requires.below c.requires.element c.in_ok-is_used.ensures.back in
    let there = ap (contains_text c.args.used.now) (child_text x p c.requires.below) ∙ sym c.in_ok-is_used.ensures.is ∙ c.if-branch.true in
    ends_to (ends_start (g.met.H.Host.is_tree c.args.host.now)) (λ u w same used. used_there c.args.root.now keep (x ∷ p) u used back there)

pub returns-then-branch-2-clause-tells : goal.returns-then-branch-2-clause-tells
returns-then-branch-2-clause-tells g c keep =
    let root = c.args.root.now in
    let x = c.args.name.now in
    let p = c.args.folder.now in
    let o = c.in-Some.object in
    let back = child_back x p c.requires.below c.requires.element c.in_ok-is_used.ensures.back in
    let off = ap (contains_text c.args.used.now) (child_text x p c.requires.below) ∙ sym c.in_ok-is_used.ensures.is ∙ c.if-branch.false in
    let named = subst (λ (q : Elements). IsNamed root q (Some o)) c.in_ok-path.ensures (subst (IsNamed root c.in_ok-path.path) c.in-Some.is c.in_ok-object.ensures) in
    ends_to c.in_ok-has.ensures.tells (λ u w there used.
    object_there root keep (x ∷ p) u used back o named (subst (IsThere root o.0 o.1 u) c.if-branch-2.true there) off)

pub returns-clause-tells : goal.returns-clause-tells
returns-clause-tells g c keep =
    let root = c.args.root.now in
    let x = c.args.name.now in
    let p = c.args.folder.now in
    let o = c.in-Some.object in
    let back = child_back x p c.requires.below c.requires.element c.in_ok-is_used.ensures.back in
    let named = subst (λ (q : Elements). IsNamed root q (Some o)) c.in_ok-path.ensures (subst (IsNamed root c.in_ok-path.path) c.in-Some.is c.in_ok-object.ensures) in
    ends_to c.in_ok-has.ensures.tells (λ u w there used.
    object_away root keep (x ∷ p) u used back o named (subst (IsThere root o.0 o.1 u) c.if-branch-2.false there))
