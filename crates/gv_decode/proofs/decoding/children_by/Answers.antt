use Rattle.std.proofs.Common.{◌≡◌, List, sym, ap, ◌∙◌, subst, IsTrue}
use Rattle.gv_value.specs.Plans.{is_plan, plan_shape, plan_shapes}
use Rattle.gv_value.specs.Shape.{Shape, Shapes, tuple}
use Rattle.gv_value.specs.Framing.{tuple_children}
use Rattle.gv_value.specs.Layout.{size_of}
use Rattle.gv_value.specs.declared.plan.Plan.{Plan}
use Rattle.gv_value.proofs.Planned.{shape-Variant, shape-Maybe}
use Rattle.gv_decode.specs.Decoded.{slices, children_of}
use Rattle.gv_decode.proofs.Rooms.{gives-same, shape-Basic, shape-Array, shape-Tuple, entry-is}
use Rattle.gv_decode.proofs.decoding.children_by.Goals as goal

pub returns-in-Array : goal.returns-in-Array
returns-in-Array c =
    let bytes = c.args.bytes.now in
    let is : plan_shape c.args.plan.now ≡ Shape.array (plan_shape c.deref.result.now) =
    ap plan_shape c.in-Array.is ∙ shape-Array c.in-Array.field-0 c.in-Array.element ∙ ap (λ (p : Plan). Shape.array (plan_shape p)) (sym c.deref.ensures) in
    gives-same (λ children. slices children.items) c.elements.result _ (children_of (plan_shape c.args.plan.now) bytes) (ap (λ (s : Shape). children_of s bytes) (sym is)) c.elements.ensures

pub returns-in-Tuple : goal.returns-in-Tuple
returns-in-Tuple c =
    let bytes = c.args.bytes.now in
    let is : plan_shape c.args.plan.now ≡ Shape.tuple (plan_shapes c.deref-in-Tuple.result.now) =
    ap plan_shape c.in-Tuple.is ∙ shape-Tuple c.in-Tuple.run' c.in-Tuple.plans ∙ ap (λ (ps : List Plan). Shape.tuple (plan_shapes ps)) (sym c.deref-in-Tuple.ensures.value) in
    gives-same (λ children. slices children.items) c.members.result _ (children_of (plan_shape c.args.plan.now) bytes) (ap (λ (s : Shape). children_of s bytes) (sym is)) c.members.ensures

pub returns-in-Entry : goal.returns-in-Entry
returns-in-Entry c =
    let bytes = c.args.bytes.now in
    let E = entry-is c.in-Entry.run' c.in-Entry.plans (subst (λ (p : Plan). IsTrue (is_plan p)) c.in-Entry.is c.requires.planned) in
    let shapes = ap plan_shapes c.deref-in-Entry.ensures.value ∙ E.shapes in
    let is : plan_shape c.args.plan.now ≡ Shape.entry E.key E.value = ap plan_shape c.in-Entry.is ∙ E.is in
    gives-same (λ children. slices children.items) c.members-in-Entry.result _ (children_of (plan_shape c.args.plan.now) bytes)
    (ap (λ (ts : Shapes). tuple_children (size_of (tuple ts)) ts bytes) shapes ∙ ap (λ (s : Shape). children_of s bytes) (sym is)) c.members-in-Entry.ensures

pub returns-in-Maybe : goal.returns-in-Maybe
returns-in-Maybe c = ap (λ (s : Shape). children_of s c.args.bytes.now) (ap plan_shape c.in-Maybe.is ∙ shape-Maybe c.in-Maybe.field-0 c.in-Maybe.field-1)

pub returns-in-Variant : goal.returns-in-Variant
returns-in-Variant c = ap (λ (s : Shape). children_of s c.args.bytes.now) (ap plan_shape c.in-Variant.is ∙ shape-Variant)

pub returns-in-Basic : goal.returns-in-Basic
returns-in-Basic c = ap (λ (s : Shape). children_of s c.args.bytes.now) (ap plan_shape c.in-Basic.is ∙ shape-Basic c.in-Basic.field-0)
