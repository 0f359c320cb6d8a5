use Rattle.std.proofs.Common.{refl, sym, ◌∙◌}
use Rattle.fp_host.proofs.Separate.{path_decides}
use Rattle.ost_model.specs.Objects.{object_path}
use Rattle.ost_store.specs.Names.{object_said}
use Rattle.ost_store.proofs.Said.{none_of, none_said, other_said}
use Rattle.ost_store.proofs.naming.object_named.Goals as goal

pub returns-in_default-2 : goal.returns-in_default-2
returns-in_default-2 c =
    none_said c.args.root.now c.args.path.now c.in-Some.name.now c.in-Some.ensures.name c.in-Some-name.folder.now c.in_ok-above.above c.in_ok-above.ensures c.in-Some-name.ensures.name
    (sym (λ i. object_said (c.as_bytes.ensures.value i) (c.as_bytes-2.ensures.value i)) ∙ sym c.in_ok-object.ensures ∙ none_of c.in_ok-object.field-0 c.in_default-2.not-Some)

pub returns-then-branch : goal.returns-then-branch
returns-then-branch c =
    let o = c.in-Some-2.object in
    (c.is_path_of.ensures.good, sym ((path_decides (object_path c.args.root.now o.0 o.1) c.args.path.now).0 (sym c.in_ok-is_path_of.ensures.is ∙ c.if-branch.true)))

pub returns : goal.returns
returns c =
    let o = c.in-Some-2.object in
    other_said c.args.root.now c.args.path.now c.in-Some.name.now c.in-Some.ensures.name c.in-Some-name.folder.now c.in_ok-above.above c.in_ok-above.ensures c.in-Some-name.ensures.name
    o.0 o.1 (object_path c.args.root.now o.0 o.1)
    (sym (λ i. object_said (c.as_bytes.ensures.value i) (c.as_bytes-2.ensures.value i)) ∙ sym c.in_ok-object.ensures ∙ c.in-Some-2.is) refl (sym c.in_ok-is_path_of.ensures.is ∙ c.if-branch.false)
