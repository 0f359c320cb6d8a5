use Rattle.std.proofs.Common.{◌≡◌, ℕ, List, inl, refl, subst, arith}
use Rattle.std.proofs.lemmas.Str.{is_utf8-from_IsUtf8}
use Rattle.fp_host.specs.View.{IsTree}
use Rattle.fp_host.specs.Outcome.{points, shows}
use Rattle.fp_host.specs.Calls.{Can, makes_link}
use Rattle.fp_host.specs.Frame.{NoPath}
use Rattle.fp_host.proofs.Cause.{same_fault, clash_step}
use Rattle.fp_host.proofs.Ending.{ends_on, ends_both, ends_call, ends_frame, ends_in_tree, ends_to, fault_caused, call_caused}
use Rattle.fp_host.proofs.Framed.{frame_start, frame_within, frame_symlink}
use Rattle.fp_small.specs.Folders.{ancestors, AreFree}
use Rattle.fp_small.proofs.Sharing.{shares_empty}
use Rattle.fl_export.specs.declared.rows.ExportWhat.TheVariants as what
use Rattle.fl_export.specs.Steps.{PutAt, it_at, CanPut}
use Rattle.fl_export.proofs.Putting.{LinkName, link_it, link_gone, link_folder, gives_gone, gives_folders, always_link, link_work, linked, IsCleanAt, IsHousedAt, housed, can_fold, can_link, text_good, good_text}
use Rattle.fl_export.proofs.placing.put_link.Goals as goal

pub returns-in_err-clear-clause-any_moment : goal.returns-in_err-clear-clause-any_moment
returns-in_err-clear-clause-any_moment g c =
    let t = g.met.H.Host.is_tree in
    let p = c.args.place.now in
    always_link (t c.args.host.now) (frame_within {G = PutAt p (what.Link c.args.text.now)} {W = LinkName p} {A = NoPath} c.clear.ensures.frame (frame_start (t c.args.host.now)) (t c.args.host.now) gives_gone (λ q e h. link_gone h) (λ q h. h) (λ q id h put. h))

pub returns-in_err-clear-clause-fault_has_cause : goal.returns-in_err-clear-clause-fault_has_cause
returns-in_err-clear-clause-fault_has_cause g c = record {
  later = c.clear.ensures.fault_has_cause.later;
  fault = λ is m told can. c.clear.ensures.fault_has_cause.fault (same_fault _ _ _ c.in_err-clear.was c.from_residual.ensures.1 is) m told can.clear;
}

pub returns-in_err-make_above-clause-any_moment : goal.returns-in_err-make_above-clause-any_moment
returns-in_err-make_above-clause-any_moment g c =
    let t = g.met.H.Host.is_tree in
    let p = c.args.place.now in
    let first = frame_within {G = PutAt p (what.Link c.args.text.now)} {W = LinkName p} {A = NoPath} c.clear.ensures.frame (frame_start (t c.args.host.now)) (t c.args.host.now) gives_gone (λ q e h. link_gone h) (λ q h. h) (λ q id h put. h) in
    always_link (t c.args.host.now) (frame_within {G = PutAt p (what.Link c.args.text.now)} {W = LinkName p} {A = NoPath} c.make_above.ensures.frame first (t c.clear.new.host) gives_folders (λ q e h. link_folder h) (λ q h. h) (λ q id h put. h))

pub returns-in_err-make_above-clause-fault_has_cause : goal.returns-in_err-make_above-clause-fault_has_cause
returns-in_err-make_above-clause-fault_has_cause g c =
    let t = g.met.H.Host.is_tree in
    let p = c.args.place.now in
    fault_caused (CanPut p (what.Link c.args.text.now)) (AreFree (ancestors p)) _ _ _ _ _ (t c.args.host.now) c.clear.ensures.fault_has_cause.later (ends_frame (t c.args.host.now) c.clear.ensures.frame) c.make_above.ensures.fault_has_cause
    (same_fault _ _ _ c.in_err-make_above.was c.from_residual-in_err-make_above.ensures.1) (λ u v tree keeps can. can_fold p can.within keeps can.folders)

pub returns-in_err-symlink-clause-any_moment : goal.returns-in_err-symlink-clause-any_moment
returns-in_err-symlink-clause-any_moment g c =
    let t = g.met.H.Host.is_tree in
    let p = c.args.place.now in
    let first = frame_within {G = PutAt p (what.Link c.args.text.now)} {W = LinkName p} {A = NoPath} c.clear.ensures.frame (frame_start (t c.args.host.now)) (t c.args.host.now) gives_gone (λ q e h. link_gone h) (λ q h. h) (λ q id h put. h) in
    let second = frame_within {G = PutAt p (what.Link c.args.text.now)} {W = LinkName p} {A = NoPath} c.make_above.ensures.frame first (t c.clear.new.host) gives_folders (λ q e h. link_folder h) (λ q h. h) (λ q id h put. h) in
    always_link (t c.args.host.now) (frame_symlink c.symlink.ensures.step second (t c.make_above.new.host) (it_at refl (text_good c.as_str.ensures)) (link_it refl))

pub returns-in_err-symlink-clause-fault_has_cause : goal.returns-in_err-symlink-clause-fault_has_cause
returns-in_err-symlink-clause-fault_has_cause g c =
    let t = g.met.H.Host.is_tree in
    let p = c.args.place.now in
    let e = c.in_err-symlink.ensures in
    let clean = ends_to {Q' = λ u v. CanPut p (what.Link c.args.text.now) u → IsCleanAt p v} (ends_both (ends_frame (t c.args.host.now) c.clear.ensures.frame) c.in_ok-clear.ensures.on_success)
    (λ u v q can. record { none = q.1.gone p (inl refl); dirs = can_fold p can.within q.0 can.folders }) in
    let known = ends_on {Q' = λ u w. CanPut p (what.Link c.args.text.now) u → IsHousedAt p w} (ends_both (ends_frame (t c.clear.new.host) c.make_above.ensures.frame) c.in_ok-make_above.ensures.on_success) clean (t c.clear.new.host)
    (λ u v w tree q s can. housed (q can) s.0 s.1) in
    let in_tree = ends_in_tree {Q' = λ u v. IsTree v × (CanPut p (what.Link c.args.text.now) u → IsHousedAt p v)} (t c.make_above.new.host) known (λ u w tree q. (tree, q)) in
    call_caused (CanPut p (what.Link c.args.text.now)) (Can (makes_link c.as_str.result.now p)) _ _ _ _ _ (t c.args.host.now) (omega (arith, c.clear.ensures.fault_has_cause.later, c.make_above.ensures.fault_has_cause.later)) in_tree e.step e.fault_has_cause c.from_residual-in_err-symlink.ensures.1 (λ v w step. clash_step step)
    (λ u v tree q can. can_link c.as_str.result.now (good_text can.text c.as_str.ensures (is_utf8-from_IsUtf8 c.as_str.result.now c.as_str.utf8)) can.clear.no_root q.0 (q.1 can))

pub returns-clause-any_moment : goal.returns-clause-any_moment
returns-clause-any_moment g c =
    let t = g.met.H.Host.is_tree in
    let p = c.args.place.now in
    let first = frame_within {G = PutAt p (what.Link c.args.text.now)} {W = LinkName p} {A = NoPath} c.clear.ensures.frame (frame_start (t c.args.host.now)) (t c.args.host.now) gives_gone (λ q e h. link_gone h) (λ q h. h) (λ q id h put. h) in
    let second = frame_within {G = PutAt p (what.Link c.args.text.now)} {W = LinkName p} {A = NoPath} c.make_above.ensures.frame first (t c.clear.new.host) gives_folders (λ q e h. link_folder h) (λ q h. h) (λ q id h put. h) in
    always_link (t c.args.host.now) (frame_symlink c.symlink.ensures.step second (t c.make_above.new.host) (it_at refl (text_good c.as_str.ensures)) (link_it refl))

pub returns-clause-on_success : goal.returns-clause-on_success
returns-clause-on_success g c =
    let t = g.met.H.Host.is_tree in
    let p = c.args.place.now in
    let first = frame_within {G = PutAt p (what.Link c.args.text.now)} {W = LinkName p} {A = NoPath} c.clear.ensures.frame (frame_start (t c.args.host.now)) (t c.args.host.now) gives_gone (λ q e h. link_gone h) (λ q h. h) (λ q id h put. h) in
    let second = frame_within {G = PutAt p (what.Link c.args.text.now)} {W = LinkName p} {A = NoPath} c.make_above.ensures.frame first (t c.clear.new.host) gives_folders (λ q e h. link_folder h) (λ q h. h) (λ q id h put. h) in
    let whole = frame_symlink c.symlink.ensures.step second (t c.make_above.new.host) (it_at refl (text_good c.as_str.ensures)) (link_it refl) in
    let made = ends_on {Q' = λ u w. IsTree w → shows w p ≡ points c.as_str.result.now} (ends_call (t c.make_above.new.host) c.in_ok-symlink.ensures.step) (ends_frame (t c.args.host.now) second) (t c.make_above.new.host) (λ u v w tree q s next. linked next s) in
    ends_in_tree (t c.symlink.new.self) (ends_both (ends_frame (t c.args.host.now) whole) made)
    (λ u w tree q. record { there = subst (λ (l : List ℕ). shows w p ≡ points l) c.as_str.ensures (q.1 tree); work = λ inside r above. link_work p inside q.0 r above; shares = shares_empty q.0 })
