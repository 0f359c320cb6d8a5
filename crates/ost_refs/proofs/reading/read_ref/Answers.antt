use Rattle.std.proofs.Common.{inl, inr, sym, subst, ◌∙◌, ap}
use Rattle.fp_host.specs.Paths.{Elements}
use Rattle.fp_host.proofs.Ending.{ends_to}
use Rattle.ost_refs.specs.Files.{ReadsRef}
use Rattle.ost_refs.proofs.Files.{ref_loaded, reads_loaded}
use Rattle.ost_refs.proofs.reading.read_ref.Goals as goal

pub returns-in-TooLong-clause-tells : goal.returns-in-TooLong-clause-tells
returns-in-TooLong-clause-tells g c =
    ends_to c.in_ok-load.ensures.tells (λ u w loads.
    let read = subst (λ (p : Elements). ReadsRef p u (ref_loaded c.in_ok-load.field-0)) c.in_ok-path.ensures (reads_loaded loads) in
    record { is = elim c.in-TooLong.is [ inl long ↦ sym (ap ref_loaded long.1) | inr no_file ↦ sym (ap ref_loaded no_file) ] ∙ read.is })
