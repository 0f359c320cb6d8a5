use Rattle.std.proofs.Common.{◌≡◌, ℕ, ◌/◌, Option, length, sym, ap, ◌∙◌}
use Rattle.gv_value.specs.Framing.{cut, steps, array_children}
use Rattle.gv_value.specs.Layout.{align_of, size_of}
use Rattle.gv_value.specs.Plans.{plan_shape}
use Rattle.gv_decode.proofs.Rooms.{capped-some}
use Rattle.gv_decode.proofs.Rows.{row-capped}
use Rattle.gv_decode.proofs.stepping.elements_in.Goals as goal

pub returns-in-Some-clause-found : goal.returns-in-Some-clause-found
returns-in-Some-clause-found c =
    let s = plan_shape c.args.element.now in
    let bytes = c.args.bytes.now in
    let k = capped-some (size_of s) c.in-Some.size (sym c.extent-extent.ensures.size ∙ c.in-Some.is) in
    sym (c.of_size.ensures.found ∙ ap (λ (n : ℕ). cut bytes 0 (steps n 0 (length bytes / n))) k.2 ∙ row-capped bytes k.0 c.requires.short
    ∙ ap (λ (o : Option ℕ). array_children (align_of s) o bytes) (sym k.1))
