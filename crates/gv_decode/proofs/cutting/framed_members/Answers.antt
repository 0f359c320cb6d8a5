use Rattle.std.proofs.Common.{◌≡◌, ℕ, List, [], ◌∷◌, ◌++◌, length, sym, ap, ◌∙◌, subst, arith, rules, IsTrue}
use Rattle.std.proofs.lemmas.Bool.{and_parts}
use Rattle.std.proofs.lemmas.List.{nil_from_length}
use Rattle.gv_value.specs.Framing.{cut, is_none_left, marks}
use Rattle.gv_value.specs.Plans.{is_plan, plan_shape, are_plans, plan_shapes}
use Rattle.gv_value.specs.declared.plan.Plan.{Plan}
use Rattle.gv_decode.specs.Decoded.{slices, offsets_left}
use Rattle.gv_decode.proofs.Marks.{member-no_child, member-more, item-inside, left-none}
use Rattle.gv_decode.proofs.Rooms.{gives-err}
use Rattle.gv_decode.proofs.Runs.{SoFar, so_far-ends, slices-more, cut-ends}
use Rattle.gv_decode.proofs.cutting.framed_members.Goals as goal

pub returns-in_err-child : goal.returns-in_err-child
returns-in_err-child c =
    let l = c.loop-plan in
    let f = c.args.frame in
    let body = f.body.now in
    let p = c.in-Some.plan.now in
    let ps = c.in-Some.others.now in
    let here : l.left.now ≡ p ∷ ps = search rules in
    let last = c.is_empty.result in
    let final : last ≡ is_none_left (plan_shapes ps) = c.is_empty.ensures ∙ left-none ps in
    let end = c.member_end-end.result.0 in
    let fewer = offsets_left f c.member_end-end.result.1 in
    let os = offsets_left f l.unused in
    let whole = cut body 0 (marks (length body) 0 (plan_shapes c.args.plans.now) (offsets_left f f.count)) in
    let so = subst (λ (xs : List Plan). SoFar (slices l.children.items) (cut body l.at (marks (length body) l.at (plan_shapes xs) os)) whole) here l.invariant.so_far in
    let e = c.in_err-child.field-0.0 in
    gives-err (λ children. slices children.items) c.from_residual-in_err-child.result e whole c.from_residual-in_err-child.ensures.1
    (member-no_child body l.at (plan_shape p) (plan_shapes ps) os (slices l.children.items) whole c.requires.short c.extent-extent.result c.extent-extent.ensures last final end fewer c.member_end-end.ensures.found so
    e c.in_err-child.ensures)

pub loop-plan-preserved : goal.loop-plan-preserved
loop-plan-preserved c =
    let l = c.loop-plan in
    let f = c.args.frame in
    let body = f.body.now in
    let p = c.in-Some.plan.now in
    let ps = c.in-Some.others.now in
    let here : l.left.now ≡ p ∷ ps = search rules in
    let last = c.is_empty.result in
    let final : last ≡ is_none_left (plan_shapes ps) = c.is_empty.ensures ∙ left-none ps in
    let end = c.member_end-end.result.0 in
    let fewer = offsets_left f c.member_end-end.result.1 in
    let os = offsets_left f l.unused in
    let whole = cut body 0 (marks (length body) 0 (plan_shapes c.args.plans.now) (offsets_left f f.count)) in
    let so = subst (λ (xs : List Plan). SoFar (slices l.children.items) (cut body l.at (marks (length body) l.at (plan_shapes xs) os)) whole) here l.invariant.so_far in
    let x = c.in_ok-child.child in
    let pushed : c.push.new.self.items ≡ l.children.items ++ x ∷ [] = search rules in
    record {
      good = (and_parts (is_plan p) (are_plans ps) (subst (λ (xs : List Plan). IsTrue (are_plans xs)) here l.invariant.good)).1;
      within = item-inside body l.at c.extent-extent.result.align end x.now c.in_ok-child.ensures;
      few = omega (arith, c.member_end-end.ensures.fewer, l.invariant.few);
      so_far = subst (λ (cs : List (List ℕ)). SoFar cs (cut body end (marks (length body) end (plan_shapes ps) fewer)) whole) (sym (ap slices pushed ∙ slices-more l.children.items x))
          (member-more body l.at (plan_shape p) (plan_shapes ps) os (slices l.children.items) whole c.requires.short c.extent-extent.result c.extent-extent.ensures last final end fewer c.member_end-end.ensures.found so
          x.now c.in_ok-child.ensures);
    }

pub returns-then-at-frame : goal.returns-then-at-frame
returns-then-at-frame c =
    let l = c.loop-plan in
    let f = c.args.frame in
    let body = f.body.now in
    let none : l.left.now ≡ [] = nil_from_length l.left.now (search rules) in
    let whole = cut body 0 (marks (length body) 0 (plan_shapes c.args.plans.now) (offsets_left f f.count)) in
    let so = subst (λ (xs : List Plan). SoFar (slices l.children.items) (cut body l.at (marks (length body) l.at (plan_shapes xs) (offsets_left f l.unused))) whole) none l.invariant.so_far in
    so_far-ends (slices l.children.items) _ whole so (cut-ends body l.at c.if-at-frame.true)
