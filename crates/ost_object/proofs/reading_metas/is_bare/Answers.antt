use Rattle.std.proofs.Common.{◌≡◌, refl, subst}
use Rattle.gv_value.specs.Shape.{Shape, Shapes, tuple}
use Rattle.gv_decode.specs.Stepped.{elements_left, elements_of}
use Rattle.ost_model.specs.Contents.{bytes_shape}
use Rattle.ost_object.proofs.ByParts.{array-emptied}
use Rattle.ost_object.proofs.reading_metas.is_bare.Goals as goal

-- an attribute's name and value
abbrev of : Shape
of = tuple (Shapes.shape bytes_shape (Shapes.shape bytes_shape Shapes.no_shapes))

pub returns : goal.returns
returns c =
    let bytes = c.args.bytes.now in
    let rows = c.in_ok-rows.rows in
    let left = elements_left rows in
    array-emptied of bytes left refl c.requires (subst (λ (s : Shape). elements_of s bytes ≡ left) c.in_ok-of.ensures c.in_ok-rows.ensures.found)
    c.in_ok-first.first rows c.is_none.result refl c.in_ok-first.ensures c.is_none.ensures
