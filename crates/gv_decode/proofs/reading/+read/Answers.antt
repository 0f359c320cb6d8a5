use Rattle.std.proofs.Common.{◌≡◌, ℕ, ◌+◌, ◌-◌, ◌<◌, ◌≤◌, List, [], ◌∷◌, ◌++◌, length, drop, Some, sym, ap, ◌∙◌, subst, arith, rules, IsTrue}
use Rattle.gv_value.proofs.Known.{AllBelow-fits}
use Rattle.gv_value.proofs.Seen.{plain-Just}
use Rattle.gv_value.proofs.Planned.{shape-Variant, shape-Maybe}
use Rattle.gv_value.specs.Layout.{align_of, size_of}
use Rattle.gv_value.specs.Plans.{is_plan, plan_shape, plan_shapes}
use Rattle.gv_value.specs.Reading.{value_at, read_all, read_each}
use Rattle.gv_value.specs.Shape.{Shape, Shapes, tuple}
use Rattle.gv_value.specs.Tree.{Tree}
use Rattle.gv_value.specs.Views.{plain, plains}
use Rattle.gv_value.specs.declared.basic.Basic.TheVariants as basics
use Rattle.gv_value.specs.declared.plan.Plan.{Plan}
use Rattle.gv_value.specs.declared.value.GvValue.{GvValue}
use Rattle.gv_value.specs.declared.value.GvValue.TheVariants as values
use Rattle.gv_decode.specs.Decoded.{Fails, slices}
use Rattle.gv_decode.proofs.OneByOne.{ReadSoFar, read-more, read-ends, all-read, each-read, short-at, good-at, all-next, each-next, each-count, all-ended, each-ended}
use Rattle.gv_decode.proofs.Partings.{parted-short}
use Rattle.gv_decode.proofs.Rooms.{two-read, maybe-read, gives-err, gives-same, in-room, shape-Array, shape-Tuple, tuple-read, tuple-fails, entry-is, entry-read, entry-fails, members_at, bytes-read}
use Rattle.gv_decode.proofs.Short.{array-short, tuple-short}
use Rattle.gv_decode.proofs.reading.+read.Goals as goal

pub read-returns-in-Variant : goal.read-returns-in-Variant
read-returns-in-Variant t c =
    gives-same plain c.read_variant.result _ (value_at c.args.room (plan_shape c.args.plan.now) c.args.bytes.now)
    (in-room c.args.room c.args.plan.now Shape.variant c.args.bytes.now c.if-room-eq0.false (ap plan_shape c.in-Variant.is ∙ shape-Variant)) c.read_variant.ensures

pub read-returns-in-Array : goal.read-returns-in-Array
read-returns-in-Array t c =
    let is : plan_shape c.args.plan.now ≡ Shape.array (plan_shape c.deref.result.now) =
    ap plan_shape c.in-Array.is ∙ shape-Array c.in-Array.field-0 c.in-Array.element ∙ ap (λ (p : Plan). Shape.array (plan_shape p)) (sym c.deref.ensures) in
    gives-same plain c.read_array.result _ (value_at c.args.room (plan_shape c.args.plan.now) c.args.bytes.now)
    (in-room c.args.room c.args.plan.now (Shape.array (plan_shape c.deref.result.now)) c.args.bytes.now c.if-room-eq0.false is) c.read_array.ensures

pub read-returns-in-Maybe : goal.read-returns-in-Maybe
read-returns-in-Maybe t c =
    let is : plan_shape c.args.plan.now ≡ Shape.maybe (plan_shape c.deref-in-Maybe.result.now) =
    ap plan_shape c.in-Maybe.is ∙ shape-Maybe c.in-Maybe.field-0 c.in-Maybe.child ∙ ap (λ (p : Plan). Shape.maybe (plan_shape p)) (sym c.deref-in-Maybe.ensures) in
    gives-same plain c.read_maybe.result _ (value_at c.args.room (plan_shape c.args.plan.now) c.args.bytes.now)
    (in-room c.args.room c.args.plan.now (Shape.maybe (plan_shape c.deref-in-Maybe.result.now)) c.args.bytes.now c.if-room-eq0.false is) c.read_maybe.ensures

pub read-returns-in_err-members-in-Tuple : goal.read-returns-in_err-members-in-Tuple
read-returns-in_err-members-in-Tuple t c =
    let n = c.args.room - 1 in
    let bytes = c.args.bytes.now in
    let ts = plan_shapes c.deref-in-Tuple.result.now in
    let is : plan_shape c.args.plan.now ≡ Shape.tuple ts =
    ap plan_shape c.in-Tuple.is ∙ shape-Tuple c.in-Tuple.run' c.in-Tuple.plans ∙ ap (λ (ps : List Plan). Shape.tuple (plan_shapes ps)) (sym c.deref-in-Tuple.ensures.value) in
    let room = in-room c.args.room c.args.plan.now (Shape.tuple ts) bytes c.if-room-eq0.false is in
    let e = c.in_err-members-in-Tuple.field-0.0 in
    gives-err plain c.from_residual.result e (value_at c.args.room (plan_shape c.args.plan.now) bytes) c.from_residual.ensures.1
    (subst (Fails e) room (tuple-fails e n ts bytes c.in_err-members-in-Tuple.ensures))

pub read-returns-in_ok-members-in-Tuple : goal.read-returns-in_ok-members-in-Tuple
read-returns-in_ok-members-in-Tuple t c =
    let n = c.args.room - 1 in
    let bytes = c.args.bytes.now in
    let ts = plan_shapes c.deref-in-Tuple.result.now in
    let is : plan_shape c.args.plan.now ≡ Shape.tuple ts =
    ap plan_shape c.in-Tuple.is ∙ shape-Tuple c.in-Tuple.run' c.in-Tuple.plans ∙ ap (λ (ps : List Plan). Shape.tuple (plan_shapes ps)) (sym c.deref-in-Tuple.ensures.value) in
    let room = in-room c.args.room c.args.plan.now (Shape.tuple ts) bytes c.if-room-eq0.false is in
    sym room ∙ tuple-read n ts bytes c.in_ok-members-in-Tuple.members c.in_ok-members-in-Tuple.ensures

pub read-returns-in_err-members-in-Entry : goal.read-returns-in_err-members-in-Entry
read-returns-in_err-members-in-Entry t c =
    let n = c.args.room - 1 in
    let bytes = c.args.bytes.now in
    let E = entry-is c.in-Entry.run' c.in-Entry.plans (subst (λ (p : Plan). IsTrue (is_plan p)) c.in-Entry.is c.requires.planned) in
    let shapes = ap plan_shapes c.deref-in-Entry.ensures.value ∙ E.shapes in
    let room = in-room c.args.room c.args.plan.now (Shape.entry E.key E.value) bytes c.if-room-eq0.false (ap plan_shape c.in-Entry.is ∙ E.is) in
    let e = c.in_err-members-in-Entry.field-0.0 in
    gives-err plain c.from_residual-in_err-members-in-Entry.result e (value_at c.args.room (plan_shape c.args.plan.now) bytes) c.from_residual-in_err-members-in-Entry.ensures.1
    (subst (Fails e) room (entry-fails e n E.key E.value bytes (subst (λ (ts : Shapes). Fails e (members_at n ts bytes)) shapes c.in_err-members-in-Entry.ensures)))

pub read-returns-in_ok-members-in-Entry : goal.read-returns-in_ok-members-in-Entry
read-returns-in_ok-members-in-Entry t c =
    let n = c.args.room - 1 in
    let bytes = c.args.bytes.now in
    let E = entry-is c.in-Entry.run' c.in-Entry.plans (subst (λ (p : Plan). IsTrue (is_plan p)) c.in-Entry.is c.requires.planned) in
    let shapes = ap plan_shapes c.deref-in-Entry.ensures.value ∙ E.shapes in
    let room = in-room c.args.room c.args.plan.now (Shape.entry E.key E.value) bytes c.if-room-eq0.false (ap plan_shape c.in-Entry.is ∙ E.is) in
    gives-same plain c.as_entry.result _ (value_at c.args.room (plan_shape c.args.plan.now) bytes) room
    (entry-read c.as_entry.result n E.key E.value bytes (plains c.in_ok-members-in-Entry.members.items)
    (sym (ap (λ (ts : Shapes). members_at n ts bytes) shapes) ∙ c.in_ok-members-in-Entry.ensures) c.as_entry.ensures)

pub read_array-returns-then-is_byte : goal.read_array-returns-then-is_byte
read_array-returns-then-is_byte t c =
    let is : plan_shape c.args.element.now ≡ Shape.basic basics.Byte = c.is_byte.ensures.0 c.if-is_byte.true in
    let same : c.args.bytes.now ≡ c.from_vec.result = search rules in
    bytes-read c.args.room c.args.element.now c.args.bytes.now (AllBelow-fits c.args.bytes.now c.type_inv.bytes) is ∙ ap (λ (bytes : List ℕ). Some (plain (values.Bytes bytes))) same

pub read_maybe-returns : goal.read_maybe-returns
read_maybe-returns t c =
    let s = plan_shape c.args.child.now in
    let some : length c.args.bytes.now ≡ 0 → ⊥ = search rules in
    let same : c.in_ok-value.value ≡ c.in_ok-new.field-0.value = search rules in
    maybe-read (value_at c.args.room s) (size_of s) c.args.bytes.now c.in_ok-inside.inside.now (plain c.in_ok-value.value) some c.in_ok-inside.ensures c.in_ok-value.ensures
    ∙ ap (λ (x : GvValue). Some (Tree.just (plain x))) same ∙ ap (λ (v : Tree). Some v) (sym (plain-Just c.in_ok-new.field-0))

pub read_variant-read-requires : goal.read_variant-read-requires
read_variant-read-requires t c =
    let front = parted-short c.args.bytes.now c.in_ok-inside.inside.now c.in_ok-inside.text.now c.in_ok-inside.ensures in
    let short = c.requires in
    (search rules, (c.in_ok-plan.ensures.good, omega arith))

pub read-as_entry-requires : goal.read-as_entry-requires
read-as_entry-requires t c =
    let n = c.args.room - 1 in
    let bytes = c.args.bytes.now in
    let E = entry-is c.in-Entry.run' c.in-Entry.plans (subst (λ (p : Plan). IsTrue (is_plan p)) c.in-Entry.is c.requires.planned) in
    let shapes = ap plan_shapes c.deref-in-Entry.ensures.value ∙ E.shapes in
    let members = c.in_ok-members-in-Entry.members in
    let two = two-read n E.key E.value bytes members.items (sym (ap (λ (ts : Shapes). members_at n ts bytes) shapes) ∙ c.in_ok-members-in-Entry.ensures) in
    omega (arith, two)

pub read_array-read_items-requires : goal.read_array-read_items-requires
read_array-read_items-requires t c =
    let s = plan_shape c.args.element.now in
    let found = c.in_ok-children.ensures ∙ ap (λ xs. Some (slices xs)) (sym c.deref.ensures.value) in
    (search rules, (c.requires.planned, array-short (align_of s) (size_of s) c.args.bytes.now (slices c.deref.result.now) c.requires.short found))

pub read_members-read_each_member-requires : goal.read_members-read_each_member-requires
read_members-read_each_member-requires t c =
    let ts = plan_shapes c.args.plans.now in
    let found = c.in_ok-children.ensures ∙ ap (λ xs. Some (slices xs)) (sym c.deref.ensures.value) in
    (search rules, (c.requires.planned, tuple-short (size_of (tuple ts)) ts c.args.bytes.now (slices c.deref.result.now) c.requires.short found))

pub read_items-read-requires : goal.read_items-read-requires
read_items-read-requires t c = (search rules, (c.requires.planned, short-at c.args.children.now c.loop-child.child-index _ c.loop-child-test.true c.requires.short))

pub read_each_member-returns-then-plans-children : goal.read_each_member-returns-then-plans-children
read_each_member-returns-then-plans-children t c = each-count (value_at c.args.room) c.args.plans.now c.args.children.now c.if-plans-children.true

pub read_each_member-read-requires : goal.read_each_member-read-requires
read_each_member-read-requires t c =
    let i = c.loop-i.i in
    let there : i < length c.args.children.now = search rules in
    (search rules, (good-at c.args.plans.now i c.index-plans-i.result c.loop-i-test.true c.index-plans-i.is c.requires.planned, short-at c.args.children.now i _ there c.requires.short))

pub read_each_member-loop-i-preserved : goal.read_each_member-loop-i-preserved
read_each_member-loop-i-preserved t c =
    let i = c.loop-i.i in
    let one = value_at c.args.room in
    let ps = c.args.plans.now in
    let cs = c.args.children.now in
    let p = c.index-plans-i.result in
    let x = c.in_ok-read.field-0 in
    let whole = read_each one (plan_shapes ps) (slices cs) in
    let there : i < length cs = search rules in
    let pushed : c.push.new.self.items ≡ c.loop-i.values.items ++ x ∷ [] = search rules in
    subst (λ (vs : List GvValue). ReadSoFar vs (read_each one (plan_shapes (drop (i + 1) ps)) (slices (drop (i + 1) cs))) whole) (sym pushed)
    (read-more c.loop-i.values.items x _ (read_each one (plan_shapes (drop (i + 1) ps)) (slices (drop (i + 1) cs))) whole c.loop-i.invariant
    (each-next one ps cs i p _ c.loop-i-test.true there c.index-plans-i.is ∙ each-read one (plan_shape p) (plan_shapes (drop (i + 1) ps)) _ (slices (drop (i + 1) cs)) (plain x) c.in_ok-read.ensures))

pub read_items-loop-child-preserved : goal.read_items-loop-child-preserved
read_items-loop-child-preserved t c =
    let i = c.loop-child.child-index in
    let one = value_at c.args.room (plan_shape c.args.element.now) in
    let cs = c.args.children.now in
    let x = c.in_ok-read.field-0 in
    let whole = read_all one (slices cs) in
    let pushed : c.push.new.self.items ≡ c.loop-child.values.items ++ x ∷ [] = search rules in
    subst (λ (vs : List GvValue). ReadSoFar vs (read_all one (slices (drop (i + 1) cs))) whole) (sym pushed)
    (read-more c.loop-child.values.items x _ (read_all one (slices (drop (i + 1) cs))) whole c.loop-child.invariant
    (all-next one cs i _ c.loop-child-test.true ∙ all-read one _ (slices (drop (i + 1) cs)) (plain x) c.in_ok-read.ensures))

pub read_items-returns : goal.read_items-returns
read_items-returns t c =
    let one = value_at c.args.room (plan_shape c.args.element.now) in
    read-ends c.loop-child.values.items _ _ c.loop-child.invariant (all-ended one c.args.children.now c.loop-child.child-index c.loop-child-test.false)

pub read_each_member-returns : goal.read_each_member-returns
read_each_member-returns t c =
    let there : length c.args.children.now ≤ c.loop-i.i = search rules in
    read-ends c.loop-i.values.items _ _ c.loop-i.invariant (each-ended (value_at c.args.room) c.args.plans.now c.args.children.now c.loop-i.i c.loop-i-test.false there)
