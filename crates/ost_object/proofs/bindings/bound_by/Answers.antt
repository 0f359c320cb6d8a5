use Rattle.std.proofs.Common.{◌≡◌, IfOk, Some, sym, ap, ◌∙◌, subst}
use Rattle.std.specs.Prelude.{option_map, Result}
use Rattle.gv_value.specs.Shape.{Shape}
use Rattle.gv_value.specs.Tree.{Tree}
use Rattle.gv_decode.specs.Decoded.{slices, children_of}
use Rattle.ost_model.specs.Binding.{texts_in, named_in, binding_name}
use Rattle.ost_object.specs.Answers.{Finds}
use Rattle.ost_object.specs.Entries.{entry_shape}
use Rattle.ost_object.proofs.Divided.{pair-of}
use Rattle.ost_object.proofs.bindings.bound_by.Goals as goal

pub returns-in-Ok : goal.returns-in-Ok
returns-in-Ok c =
    let entry = c.args.entry.now in
    let found = subst (λ (s : Shape). Finds (λ children. slices children.items) c.children_of.result (children_of s entry)) c.requires.shape c.children_of.ensures in
    let here = subst (λ r. Finds (λ children. slices children.items) r (children_of entry_shape entry)) c.in-Ok.is found in
    let members : children_of entry_shape entry ≡ Some (slices c.deref.result.now) = here ∙ ap (λ xs. Some (slices xs)) (sym c.deref.ensures.value) in
    subst (λ (v : Tree). IfOk c.bound_pair.result (λ texts. texts ≡ option_map texts_in (named_in binding_name v)))
    (sym (pair-of entry (slices c.deref.result.now) c.requires.normal members)) c.bound_pair.ensures
