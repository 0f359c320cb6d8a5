use Rattle.std.proofs.Common.{◌∙◌, sym, ap, refl}
use Rattle.fp_host.specs.Paths.{elements_of}
use Rattle.fp_memhost.specs.Names.{slot_of, slot_in}
use Rattle.fp_memhost.proofs.Editing.{name_there}
use Rattle.fp_memhost.proofs.Ordered.{none_at}
use Rattle.fp_memhost.proofs.names.entry.Goals as goal

pub returns-in-Ok : goal.returns-in-Ok
returns-in-Ok c = ap slot_of c.as_ref.ensures.value ∙ sym (ap slot_in (name_there c.args.names.now (elements_of c.args.text.now) c.in-Ok.at c.index-names-at.result c.in-Ok.ensures))

pub returns-in-Err : goal.returns-in-Err
returns-in-Err c = sym (ap slot_in (none_at c.args.names.now (elements_of c.args.text.now) c.args.text.now c.in-Err.field-0 refl c.in-Err.ensures))
