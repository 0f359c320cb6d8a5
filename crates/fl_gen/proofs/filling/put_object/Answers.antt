use Rattle.std.proofs.Common.{◌∙◌, ap}
use Rattle.std.proofs.lemmas.Result.{on_ok_weaker}
use Rattle.fp_host.specs.Paths.{Elements}
use Rattle.ost_model.specs.Objects.{object_path}
use Rattle.fl_gen.proofs.Entries.{adds_as}
use Rattle.fl_gen.proofs.Reading.{named_bits, named_reads}
use Rattle.fl_gen.proofs.filling.put_object.Goals as goal

pub put-requires : goal.put-requires
put-requires c = c.in_ok-leaf_of.ensures.bits (named_bits c.args.object.now c.requires)

pub returns-clause-put : goal.returns-clause-put
returns-clause-put c =
    let o = c.args.object.now in
    on_ok_weaker c.put.result (adds_as (c.in_ok-path.ensures ∙ ap (λ (up : Elements). object_path up o.digest o.kind) c.root.ensures) c.in_ok-leaf_of.ensures.spot) c.put.ensures

pub returns-clause-reads : goal.returns-clause-reads
returns-clause-reads c = on_ok_weaker c.put.result (λ adds. named_reads c.args.object.now c.requires c.in_ok-leaf_of.ensures.text) c.put.ensures
