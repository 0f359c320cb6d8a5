use Rattle.std.proofs.Common.{[], ◌∙◌, ap}
use Rattle.std.proofs.lemmas.Result.{on_ok_weaker}
use Rattle.fp_host.specs.Paths.{Elements}
use Rattle.fp_name.specs.Refs.{Ref}
use Rattle.ost_refs.specs.Places.{place_path}
use Rattle.ost_refs.specs.declared.place.RefPlace.TheVariants.{Head}
use Rattle.fl_gen.specs.Stores.{file_spot}
use Rattle.fl_gen.proofs.Entries.{adds_as}
use Rattle.fl_gen.proofs.filling.put_ref.Goals as goal

pub returns-clause-put : goal.returns-clause-put
returns-clause-put c =
    let path = c.in_ok-path.ensures ∙ (ap (λ (up : Elements). place_path up (Head c.in_ok-copy.field-0)) c.root.ensures ∙ ap (λ (r : Ref). place_path [] (Head r)) c.in_ok-copy.ensures) in
    let spot = c.file_of.ensures.spot ∙ ap file_spot c.in_ok-bytes.ensures.bytes in
    on_ok_weaker c.put.result (adds_as path spot) c.put.ensures
