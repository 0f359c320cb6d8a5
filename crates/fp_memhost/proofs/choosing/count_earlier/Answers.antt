use Rattle.std.proofs.Common.{◌∙◌, sym, ap, refl, length, Option, get_or}
use Rattle.std.proofs.lemmas.List.{length-map}
use Rattle.fp_host.specs.Paths.{elements_of}
use Rattle.fp_memhost.specs.Names.{slot_of, held_in}
use Rattle.fp_memhost.specs.declared.names.Name.{Name}
use Rattle.fp_memhost.proofs.Editing.{name_there}
use Rattle.fp_memhost.proofs.Ordered.{none_at}
use Rattle.fp_memhost.proofs.choosing.count_earlier.Goals as goal

pub returns-in-Ok : goal.returns-in-Ok
returns-in-Ok c =
    let name : Name = get_or c.args.names.now c.in-Ok.at c.index-names-at.result in
    c.len.ensures ∙ name.earlier.ok.0 ∙ sym (length-map name.earlier.items slot_of)
    ∙ sym (ap (λ (o : Option Name). length (held_in o)) (name_there c.args.names.now (elements_of c.args.text.now) c.in-Ok.at c.index-names-at.result c.in-Ok.ensures))

pub returns-in-Err : goal.returns-in-Err
returns-in-Err c = sym (ap (λ (o : Option Name). length (held_in o)) (none_at c.args.names.now (elements_of c.args.text.now) c.args.text.now c.in-Err.field-0 refl c.in-Err.ensures))
