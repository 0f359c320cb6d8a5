use Rattle.std.proofs.Common.{arith, sym, ◌∙◌, subst}
use Rattle.std.proofs.lemmas.Bool.{false≢true}
use Rattle.std.proofs.lemmas.Result.{on_ok_weaker}
use Rattle.fp_host.proofs.Framed.{frame_start, frame_within}
use Rattle.fp_host.proofs.Ending.{ends_to, ends_start, fault_caused}
use Rattle.fp_small.specs.Replace.{IsFreeFile}
use Rattle.ost_refs.specs.Places.{place_path}
use Rattle.dep_states.specs.Sound.{Opens}
use Rattle.dep_tidy.proofs.RefFiles.{other_place, drop_gives, drop_puts, none_dropped, none_wanted, drop_free}
use Rattle.dep_tidy.proofs.refs.drop_other.Goals as goal

pub returns-then-is_wanted-clause-frame : goal.returns-then-is_wanted-clause-frame
returns-then-is_wanted-clause-frame g c = frame_start (g.met.H.Host.is_tree c.args.host.now)

pub returns-then-is_wanted-clause-on_success : goal.returns-then-is_wanted-clause-on_success
returns-then-is_wanted-clause-on_success g c = ends_to (ends_start (g.met.H.Host.is_tree c.args.host.now)) (λ u w same. none_wanted c.args.place.now (c.is_wanted.ensures.wanted.0 c.if-is_wanted.true) w)

pub returns : goal.returns
returns g c =
    let t = g.met.H.Host.is_tree in
    let other = other_place c.args.place.now c.is_wanted.ensures.good (λ wanted. false≢true (sym c.if-is_wanted.false ∙ c.is_wanted.ensures.wanted.1 wanted)) in
    record {
      frame = frame_within c.drop_ref.ensures.frame (frame_start (t c.args.host.now)) (t c.args.host.now) (drop_gives other c.requires.root) (drop_puts other c.requires.root) (λ q none. none) (λ q id none put. none);
      on_success = on_ok_weaker c.drop_ref.result (λ done. ends_to done (λ u w was. none_dropped other c.requires.root was)) c.drop_ref.ensures.on_success;
      fault_has_cause = fault_caused (Opens c.args.state.now) (IsFreeFile (place_path c.args.root.now c.args.place.now)) _ _ _ _ _ (t c.args.host.now) (omega arith) (ends_start (t c.args.host.now)) c.drop_ref.ensures.fault_has_cause (λ e. e)
          (λ u v tree same opens. subst (IsFreeFile (place_path c.args.root.now c.args.place.now)) (sym same) (drop_free other c.requires.root tree opens));
    }
