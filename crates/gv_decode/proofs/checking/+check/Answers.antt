use Rattle.std.proofs.Common.{◌≡◌, ℕ, ◌+◌, ◌-◌, ◌≤◌, ◌<◌, List, ◌∷◌, length, drop, Some, sym, ap, ◌∙◌, subst, arith, rules, IsTrue}
use Rattle.std.specs.Option.{is_some}
use Rattle.gv_value.proofs.Known.{AllBelow-fits}
use Rattle.gv_value.proofs.Planned.{shape-Maybe}
use Rattle.gv_value.specs.Layout.{align_of, size_of}
use Rattle.gv_value.specs.Plans.{is_plan, plan_shape, plan_shapes}
use Rattle.gv_value.specs.Reading.{value_at, read_all, read_each}
use Rattle.gv_value.specs.Shape.{Shape, Shapes, tuple}
use Rattle.gv_value.specs.Tree.{Tree}
use Rattle.gv_value.specs.declared.plan.Plan.{Plan}
use Rattle.gv_decode.specs.Decoded.{Passes, slices}
use Rattle.gv_decode.proofs.OneByOne.{left-passes, each-passes, short-at, good-at, each-next, each-count}
use Rattle.gv_decode.proofs.Partings.{parted-short}
use Rattle.gv_decode.proofs.Passing.{passes-same, passes-form, passes-entry, bytes-pass}
use Rattle.gv_decode.proofs.Rooms.{in-room, shape-Array, shape-Tuple, entry-is, members_at}
use Rattle.gv_decode.proofs.Short.{tuple-short}
use Rattle.gv_decode.proofs.Nexts.{step-is, goes-on}
use Rattle.gv_decode.specs.Stepped.{elements_left}
use Rattle.gv_decode.proofs.checking.+check.Goals as goal

pub check-returns-in-Array : goal.check-returns-in-Array
check-returns-in-Array t c =
    let is : plan_shape c.args.plan.now ≡ Shape.array (plan_shape c.deref.result.now) =
    ap plan_shape c.in-Array.is ∙ shape-Array c.in-Array.field-0 c.in-Array.element ∙ ap (λ (p : Plan). Shape.array (plan_shape p)) (sym c.deref.ensures) in
    passes-same c.check_array.result _ (value_at c.args.room (plan_shape c.args.plan.now) c.args.bytes.now)
    (in-room c.args.room c.args.plan.now (Shape.array (plan_shape c.deref.result.now)) c.args.bytes.now c.if-room-eq0.false is) (passes-form Tree.array c.check_array.result _ c.check_array.ensures)

pub check-returns-in-Maybe : goal.check-returns-in-Maybe
check-returns-in-Maybe t c =
    let is : plan_shape c.args.plan.now ≡ Shape.maybe (plan_shape c.deref-in-Maybe.result.now) =
    ap plan_shape c.in-Maybe.is ∙ shape-Maybe c.in-Maybe.field-0 c.in-Maybe.child ∙ ap (λ (p : Plan). Shape.maybe (plan_shape p)) (sym c.deref-in-Maybe.ensures) in
    passes-same c.check_maybe.result _ (value_at c.args.room (plan_shape c.args.plan.now) c.args.bytes.now)
    (in-room c.args.room c.args.plan.now (Shape.maybe (plan_shape c.deref-in-Maybe.result.now)) c.args.bytes.now c.if-room-eq0.false is) c.check_maybe.ensures

pub check-returns-in-Tuple : goal.check-returns-in-Tuple
check-returns-in-Tuple t c =
    let ts = plan_shapes c.deref-in-Tuple.result.now in
    let is : plan_shape c.args.plan.now ≡ Shape.tuple ts =
    ap plan_shape c.in-Tuple.is ∙ shape-Tuple c.in-Tuple.run' c.in-Tuple.plans ∙ ap (λ (ps : List Plan). Shape.tuple (plan_shapes ps)) (sym c.deref-in-Tuple.ensures.value) in
    passes-same c.check_members.result _ (value_at c.args.room (plan_shape c.args.plan.now) c.args.bytes.now)
    (in-room c.args.room c.args.plan.now (Shape.tuple ts) c.args.bytes.now c.if-room-eq0.false is) (passes-form Tree.tuple c.check_members.result _ c.check_members.ensures)

pub check-returns-in-Entry : goal.check-returns-in-Entry
check-returns-in-Entry t c =
    let n = c.args.room - 1 in
    let bytes = c.args.bytes.now in
    let E = entry-is c.in-Entry.run' c.in-Entry.plans (subst (λ (p : Plan). IsTrue (is_plan p)) c.in-Entry.is c.requires.planned) in
    let shapes = ap plan_shapes c.deref-in-Entry.ensures.value ∙ E.shapes in
    let r = c.check_members-in-Entry.result in
    passes-same r _ (value_at c.args.room (plan_shape c.args.plan.now) bytes)
    (in-room c.args.room c.args.plan.now (Shape.entry E.key E.value) bytes c.if-room-eq0.false (ap plan_shape c.in-Entry.is ∙ E.is))
    (passes-entry r n E.key E.value bytes (subst (λ (ts : Shapes). Passes r (members_at n ts bytes)) shapes c.check_members-in-Entry.ensures))

pub check_array-returns-then-is_byte : goal.check_array-returns-then-is_byte
check_array-returns-then-is_byte t c =
    bytes-pass c.args.room c.args.element.now c.args.bytes.now (AllBelow-fits c.args.bytes.now c.type_inv.bytes) (c.is_byte.ensures.0 c.if-is_byte.true)

pub check_each-returns-then-plans-children : goal.check_each-returns-then-plans-children
check_each-returns-then-plans-children t c = each-count (value_at c.args.room) c.args.plans.now c.args.children.now c.if-plans-children.true

pub check_each-check-requires : goal.check_each-check-requires
check_each-check-requires t c =
    let i = c.loop-i.i in
    let there : i < length c.args.children.now = search rules in
    (search rules, (good-at c.args.plans.now i c.index-plans-i.result c.loop-i-test.true c.index-plans-i.is c.requires.planned, short-at c.args.children.now i _ there c.requires.short))

pub check_each-loop-i-preserved : goal.check_each-loop-i-preserved
check_each-loop-i-preserved t c =
    let i = c.loop-i.i in
    let ps = c.args.plans.now in
    let cs = c.args.children.now in
    let p = c.index-plans-i.result in
    let there : i < length cs = search rules in
    sym (each-passes (value_at c.args.room) (plan_shape p) (plan_shapes (drop (i + 1) ps)) _ (slices (drop (i + 1) cs)) c.in_ok-check.ensures)
    ∙ sym (ap is_some (each-next (value_at c.args.room) ps cs i p _ c.loop-i-test.true there c.index-plans-i.is)) ∙ c.loop-i.invariant

pub check_items-loop-child-preserved : goal.check_items-loop-child-preserved
check_items-loop-child-preserved t c =
    let l = c.loop-child in
    let o = c.in_ok-child.field-0 in
    let x = c.in-Some.child in
    let others = c.in-Some.others in
    let is : o ≡ Some (x, others) = search rules in
    let step = step-is o x others (elements_left l.left) is c.in_ok-child.ensures.found in
    record {
      ready = (goes-on o x others l.left is c.in_ok-child.ensures.ready).ready;
      same = sym (left-passes (value_at c.args.room (plan_shape c.args.element.now)) x.now (elements_left l.left) (elements_left others) step c.in_ok-check.ensures) ∙ l.invariant.same;
    }

pub check_members-check_each-requires : goal.check_members-check_each-requires
check_members-check_each-requires t c =
    let ts = plan_shapes c.args.plans.now in
    let found = c.in_ok-children.ensures ∙ ap (λ xs. Some (slices xs)) (sym c.deref.ensures.value) in
    (search rules, (c.requires.planned, tuple-short (size_of (tuple ts)) ts c.args.bytes.now (slices c.deref.result.now) c.requires.short found))

pub check_variant-check-requires : goal.check_variant-check-requires
check_variant-check-requires t c =
    let front = parted-short c.args.bytes.now c.in_ok-inside.inside.now c.in_ok-inside.text.now c.in_ok-inside.ensures in
    let short = c.requires in
    (search rules, (c.in_ok-plan.ensures.good, omega arith))
