use Rattle.std.proofs.Common.{refl, sym, subst}
use Rattle.fp_memhost.specs.Files.{AddsFile}
use Rattle.fp_memhost.proofs.Filing.{write_file, push_file, adds_file}
use Rattle.fp_memhost.proofs.files.add_file.Goals as goal

pub returns-in-Some-clause-ok : goal.returns-in-Some-clause-ok
returns-in-Some-clause-ok c = adds_file (write_file _ _ _ _ _ c.in-Some.ensures c.deref.ensures.value refl) c.args.mode refl c.new.ensures.items refl

pub returns-in_ok-push-in-None-clause-ok : goal.returns-in_ok-push-in-None-clause-ok
returns-in_ok-push-in-None-clause-ok c = let h = c.in-None.ensures in
    subst (AddsFile c.args.id c.args.mode c.args.files.now.items) (sym c.in_ok-push-in-None.ensures.items) (adds_file (push_file _ _ _ _ c.in-None.ensures c.deref.ensures.value refl) c.args.mode refl c.new.ensures.items refl)
