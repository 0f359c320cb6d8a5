use Rattle.std.proofs.Common.{◌≡◌, ℕ, List, true, false, Some, None, Err, sym, ap, ◌∙◌, subst, rules}
use Rattle.gv_value.specs.Reading.{parted}
use Rattle.ost_model.specs.Binding.{texts_in}
use Rattle.gv_decode.specs.Decoded.{Gives}
use Rattle.ost_object.proofs.Divided.{other-type, not-parted}
use Rattle.ost_object.proofs.bindings.texts_of_bytes.Goals as goal

pub returns-else-are_texts_by : goal.returns-else-are_texts_by
returns-else-are_texts_by c =
    let parts : parted c.args.bytes.now ≡ Some (c.in-Ok._inside.now, c.in-Ok.text.now) = search rules in
    sym (other-type c.args.bytes.now c.in-Ok._inside.now c.in-Ok.text.now parts
    (λ e. let yes : true ≡ false = sym (c.are_texts_by.ensures.1 e) ∙ c.if-are_texts_by.false in cc yes))

pub returns-in-Err-NotNormal : goal.returns-in-Err-NotNormal
returns-in-Err-NotNormal c =
    let none : parted c.args.bytes.now ≡ None = search rules in
    sym (not-parted c.args.bytes.now none)
