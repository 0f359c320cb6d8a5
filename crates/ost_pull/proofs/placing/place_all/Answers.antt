use Rattle.std.proofs.Common.{◌≡◌, ◌-◌, ◌++◌, [], List, ℕ, take, ◌∙◌, ap, subst, arith}
use Rattle.fp_host.specs.Frame.{AtEnd}
use Rattle.fp_host.proofs.Cause.{same_fault}
use Rattle.fp_host.proofs.Goes.{stays}
use Rattle.fp_host.proofs.Ending.{goes_last, ends_start, ends_to, ends_both, ends_goes, fault_caused}
use Rattle.fp_base.specs.declared.object.ObjKind.{ObjKind}
use Rattle.ost_model.specs.Objects.{object_path}
use Rattle.ost_store.specs.Place.{CanPlace}
use Rattle.ost_pull.specs.Placing.{CanPlaceAll, PlacesSome}
use Rattle.ost_pull.proofs.Last.{UpTo, none_come, first_lacks, last_next, up_to_after}
use Rattle.ost_pull.proofs.Placed.{Between, none_placed, all_placed, pulls_next, between_next, can_place_next}
use Rattle.ost_pull.proofs.Pulled.{pulls_refl}
use Rattle.ost_pull.proofs.placing.place_all.Goals as goal

pub loop-object-init : goal.loop-object-init
loop-object-init g c =
    let t = g.met.H.Host.is_tree in
    record {
      pulls = stays (t c.args.host.now) (λ u ready lacking. pulls_refl) (λ u tree ready lacking. pulls_refl);
      known = ends_to (ends_start (t c.args.host.now)) (λ u w same ready. none_placed same ready);
      order = stays (t c.args.host.now) (λ u ready lacking. first_lacks lacking) (λ u tree ready lacking. first_lacks lacking);
      up_to = ends_to (ends_start (t c.args.host.now)) (λ u w same ready lacking. none_come same lacking);
      later = omega arith;
    }

pub loop-object-preserved : goal.loop-object-preserved
loop-object-preserved g c =
    let t = g.met.H.Host.is_tree in
    let root = c.args.root.now in
    let work = c.args.work.now in
    let all = c.args.objects.now.items in
    let left = c.pop.new.self.items in
    let o = c.in-Some.object in
    let known = subst (λ (l : List (List ℕ × ObjKind)). AtEnd (Between root work all l) (g.H.Host.moments c.args.host.now) (g.H.Host.moments c.loop-object.host)) c.in-Some.ensures.items c.loop-object.invariant.known in
    let up_to = subst (λ (l : List (List ℕ × ObjKind)). AtEnd (UpTo root work all l) (g.H.Host.moments c.args.host.now) (g.H.Host.moments c.loop-object.host)) c.in-Some.ensures.items c.loop-object.invariant.up_to in
    record {
      pulls = pulls_next c.requires all left o (t c.loop-object.host) c.loop-object.invariant.pulls known c.place_from.ensures.any_moment;
      known = between_next c.requires all left o (t c.loop-object.host) c.loop-object.invariant.pulls known (t c.args.host.now) (t c.place_from.new.host) c.place_from.ensures.any_moment c.in_ok-place_from.ensures.on_success c.place_from.ensures.unsynced;
      order = last_next c.requires all left o (t c.loop-object.host) c.loop-object.invariant.order up_to c.place_from.ensures.any_moment;
      up_to = up_to_after c.requires all left o (t c.loop-object.host) c.loop-object.invariant.order up_to c.place_from.ensures.any_moment c.in_ok-place_from.ensures.on_success;
      later = omega (arith, c.loop-object.invariant.later, c.place_from.ensures.fault_has_cause.later);
    }

pub returns-in_err-place_from-clause-any_moment : goal.returns-in_err-place_from-clause-any_moment
returns-in_err-place_from-clause-any_moment g c =
    let t = g.met.H.Host.is_tree in
    let known = subst (λ (l : List (List ℕ × ObjKind)). AtEnd (Between c.args.root.now c.args.work.now c.args.objects.now.items l) (g.H.Host.moments c.args.host.now) (g.H.Host.moments c.loop-object.host)) c.in-Some.ensures.items c.loop-object.invariant.known in
    pulls_next c.requires c.args.objects.now.items c.pop.new.self.items c.in-Some.object (t c.loop-object.host) c.loop-object.invariant.pulls known c.place_from.ensures.any_moment

pub returns-in_err-place_from-clause-order : goal.returns-in_err-place_from-clause-order
returns-in_err-place_from-clause-order g c =
    let t = g.met.H.Host.is_tree in
    let up_to = subst (λ (l : List (List ℕ × ObjKind)). AtEnd (UpTo c.args.root.now c.args.work.now c.args.objects.now.items l) (g.H.Host.moments c.args.host.now) (g.H.Host.moments c.loop-object.host)) c.in-Some.ensures.items c.loop-object.invariant.up_to in
    last_next c.requires c.args.objects.now.items c.pop.new.self.items c.in-Some.object (t c.loop-object.host) c.loop-object.invariant.order up_to c.place_from.ensures.any_moment

pub returns-in_err-place_from-clause-fault_has_cause : goal.returns-in_err-place_from-clause-fault_has_cause
returns-in_err-place_from-clause-fault_has_cause g c =
    let t = g.met.H.Host.is_tree in
    let root = c.args.root.now in
    let work = c.args.work.now in
    let all = c.args.objects.now.items in
    let left = c.pop.new.self.items in
    let o = c.in-Some.object in
    let known = subst (λ (l : List (List ℕ × ObjKind)). AtEnd (Between root work all l) (g.H.Host.moments c.args.host.now) (g.H.Host.moments c.loop-object.host)) c.in-Some.ensures.items c.loop-object.invariant.known in
    fault_caused (CanPlaceAll root work all) (CanPlace root (object_path work o.0 o.1) o.0 o.1) _ _ _ _ _ (t c.args.host.now) c.loop-object.invariant.later
    (ends_both (ends_goes (t c.args.host.now) (goes_last c.loop-object.invariant.pulls)) known) c.place_from.ensures.fault_has_cause (same_fault _ _ _ c.in_err-place_from.was c.from_residual.ensures.1)
    (λ u v tree q can. can_place_next c.requires all left o (t c.loop-object.host) c.loop-object.invariant.pulls known q.0 q.1 can)

pub returns-clause-on_success : goal.returns-clause-on_success
returns-clause-on_success g c =
    let e = c.in_default.ensures in
    let left = c.loop-object.objects.items in
    let empty : left ≡ [] = e.items ∙ ap (λ (l : List (List ℕ × ObjKind)). l ++ []) (e.rest ∙ ap (λ (k : ℕ). take (k - 1) left) e.cases.0) in
    ends_to c.loop-object.invariant.known (λ u w q ready. all_placed (subst (λ (l : List (List ℕ × ObjKind)). PlacesSome c.args.root.now c.args.work.now c.args.objects.now.items l u w) empty (q ready).0))
