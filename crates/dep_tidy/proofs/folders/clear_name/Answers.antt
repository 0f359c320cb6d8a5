use Rattle.std.proofs.Common.{arith, ◌≡◌, ◌∙◌, List, ℕ, ◌∷◌, true, ap, sym, subst}
use Rattle.std.proofs.lemmas.Bool.{false≢true}
use Rattle.std.proofs.lemmas.Result.{on_ok_weaker}
use Rattle.fp_host.specs.Paths.{is_element}
use Rattle.fp_host.proofs.Framed.{frame_start, frame_within}
use Rattle.fp_host.proofs.Ending.{ends_to, ends_start, fault_caused}
use Rattle.fp_name.specs.Hex.{unhex}
use Rattle.fp_name.proofs.HexTexts.{unhex_ok, unhex_err}
use Rattle.fp_small.specs.Clear.{CanClear}
use Rattle.fp_small.proofs.Elements.{digest_element}
use Rattle.dep_states.specs.Frames.{KeptIn}
use Rattle.dep_states.specs.Sound.{Opens}
use Rattle.dep_tidy.proofs.Clearing.{can_clear}
use Rattle.dep_tidy.proofs.UnkeptFolders.{none_bad, none_kept, dir_is, clear_gives, clear_puts, none_cleared}
use Rattle.dep_tidy.proofs.folders.clear_name.Goals as goal

pub returns-in_default-clause-frame : goal.returns-in_default-clause-frame
returns-in_default-clause-frame g c = frame_start (g.met.H.Host.is_tree c.args.host.now)

pub returns-in_default-clause-on_success : goal.returns-in_default-clause-on_success
returns-in_default-clause-on_success g c =
    let bad = ap unhex (sym (c.as_bytes.ensures.value ∙ c.as_str.ensures)) ∙ unhex_err c.as_bytes.result.now c.parse.result c.parse.ensures c.in_default.not-Ok in
    ends_to (ends_start (g.met.H.Host.is_tree c.args.host.now)) (λ u w same. none_bad bad w)

pub returns-then-is_kept-clause-frame : goal.returns-then-is_kept-clause-frame
returns-then-is_kept-clause-frame g c = frame_start (g.met.H.Host.is_tree c.args.host.now)

pub returns-then-is_kept-clause-on_success : goal.returns-then-is_kept-clause-on_success
returns-then-is_kept-clause-on_success g c =
    let is = ap unhex (sym (c.as_bytes.ensures.value ∙ c.as_str.ensures)) ∙ unhex_ok c.as_bytes.result.now c.parse.result c.in-Ok.commit c.parse.ensures c.in-Ok.is in
    ends_to (ends_start (g.met.H.Host.is_tree c.args.host.now)) (λ u w same. none_kept c.in-Ok.commit is (c.is_kept.ensures.0 c.if-is_kept.true) w)

pub child-requires : goal.child-requires
child-requires g c =
    subst (λ t. is_element t ≡ true) (sym c.as_str-2.ensures) (digest_element c.args.text.now c.in-Ok.commit (ap unhex (sym (c.as_bytes.ensures.value ∙ c.as_str.ensures)) ∙ unhex_ok c.as_bytes.result.now c.parse.result c.in-Ok.commit c.parse.ensures c.in-Ok.is))

pub returns : goal.returns
returns g c =
    let t = g.met.H.Host.is_tree in
    let d = c.in-Ok.commit in
    let is = ap unhex (sym (c.as_bytes.ensures.value ∙ c.as_str.ensures)) ∙ unhex_ok c.as_bytes.result.now c.parse.result d c.parse.ensures c.in-Ok.is in
    let path = c.in_ok-path.ensures ∙ ap (λ (x : List ℕ). x ∷ c.args.folder.now) c.as_str-2.ensures in
    let off : KeptIn c.args.state.now c.args.name.now d → ⊥ = λ kept. false≢true (sym c.if-is_kept.false ∙ c.is_kept.ensures.1 kept) in
    record {
      frame = frame_within c.clear.ensures.frame (frame_start (t c.args.host.now)) (t c.args.host.now) (clear_gives d is c.requires.good off c.requires.folder path) (clear_puts d is c.requires.good off c.requires.folder path) (λ q none. none) (λ q id none put. none);
      on_success = on_ok_weaker c.clear.result (λ done. ends_to done (λ u w cleared. none_cleared d is c.requires.good off c.requires.folder path cleared)) c.clear.ensures.on_success;
      fault_has_cause = fault_caused (Opens c.args.state.now) (CanClear c.in_ok-path.path) _ _ _ _ _ (t c.args.host.now) (omega arith) (ends_start (t c.args.host.now)) c.clear.ensures.fault_has_cause (λ e. e)
          (λ u v tree same opens. subst (CanClear c.in_ok-path.path) (sym same) (subst (λ p. CanClear p u) (sym (dir_is d is c.requires.good off c.requires.folder path)) (can_clear tree opens c.args.name.now d)));
    }
