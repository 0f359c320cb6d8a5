use Rattle.std.proofs.Common.{arith, ap, sym, ◌∙◌, subst}
use Rattle.std.specs.Prelude.{option_copied}
use Rattle.std.proofs.lemmas.Result.{on_ok_weaker}
use Rattle.fp_host.proofs.Goes.{stays}
use Rattle.fp_host.proofs.Ending.{ends_to, ends_start, fault_caused}
use Rattle.fp_name.specs.Refs.{ref_text}
use Rattle.fp_small.specs.Places.{repo}
use Rattle.ost_refs.specs.Changes.{CanWrite}
use Rattle.ost_refs.specs.declared.place.RefPlace.TheVariants.{Remote}
use Rattle.dep_states.specs.Shown.{at_name, ref_key}
use Rattle.dep_states.specs.Sound.{Opens}
use Rattle.dep_tidy.proofs.RefFiles.{writes_start, can_write_row, wrote_no_row, writes_row, row_in, wrote_row}
use Rattle.dep_tidy.proofs.refs.write_file_of.Goals as goal

pub returns-in-None-clause-any_moment : goal.returns-in-None-clause-any_moment
returns-in-None-clause-any_moment g c = stays (g.met.H.Host.is_tree c.args.host.now) (λ u. writes_start) (λ u t. writes_start)

pub returns-in-None-clause-on_success : goal.returns-in-None-clause-on_success
returns-in-None-clause-on_success g c =
    let none = ap (λ rows. at_name ref_key rows (ref_text c.args.name.now)) (sym c.as_slice.ensures) ∙ sym c.row_of.ensures.row ∙ ap option_copied c.in-None.is in
    ends_to (ends_start (g.met.H.Host.is_tree c.args.host.now)) (λ u w same. wrote_no_row c.args.state.now c.args.name.now none same)

pub returns-in-Some : goal.returns-in-Some
returns-in-Some g c =
    let t = g.met.H.Host.is_tree in
    let s = c.args.state.now in
    let name = c.args.name.now in
    let row = c.in-Some.row.now in
    let is = ap (λ rows. at_name ref_key rows (ref_text name)) (sym c.as_slice.ensures) ∙ sym c.row_of.ensures.row ∙ ap option_copied c.in-Some.is in
    record {
      any_moment = writes_row s name row is c.write_file.ensures.any_moment;
      on_success = on_ok_weaker c.write_file.result (λ done. ends_to done (λ u w wrote. wrote_row s name row is wrote)) c.write_file.ensures.on_success;
      fault_has_cause = fault_caused (Opens s) (CanWrite repo (Remote row.origin row.name)) _ _ _ _ _ (t c.args.host.now) (omega arith) (ends_start (t c.args.host.now)) c.write_file.ensures.fault_has_cause (λ e. e)
          (λ u v tree same opens. subst (CanWrite repo (Remote row.origin row.name)) (sym same) (can_write_row s row (row_in s name row is) tree opens));
    }
