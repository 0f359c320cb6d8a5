use Rattle.std.proofs.Common.{◌∙◌, List, ℕ, sym, subst, arith}
use Rattle.std.proofs.lemmas.Result.{on_ok_weaker}
use Rattle.fp_host.proofs.Cause.{same_fault}
use Rattle.fp_host.proofs.Ending.{ends_start, ends_goes, ends_on, ends_both, fault_caused, ends_looks, ends_to}
use Rattle.fp_small.specs.Folders.{AreFree, IsLadder}
use Rattle.fp_small.specs.Stage.{CanStage}
use Rattle.fp_small.specs.Move.{CanMove}
use Rattle.fp_small.specs.Replace.{folders_of, CanReplace}
use Rattle.fp_small.proofs.Unsynced.{none_on, none_same}
use Rattle.fp_small.proofs.Keeping.{one_same, one_none, one_of_none, one_of_made, one_then_same}
use Rattle.fp_small.proofs.Replacement.{ladder, can_stage, was_replaced}
use Rattle.fp_small.proofs.Whole.{looked, placed, making, housed, staging, written, moving}
use Rattle.fp_small.proofs.replacing.replace.Goals as goal

pub returns-in_err-place-clause-any_moment : goal.returns-in_err-place-clause-any_moment
returns-in_err-place-clause-any_moment g c = looked c.args.path.now c.args.bytes.now (g.met.H.Host.is_tree c.args.host.now) c.staging_place.ensures.unchanged

pub returns-in_err-place-clause-starved_unchanged : goal.returns-in_err-place-clause-starved_unchanged
returns-in_err-place-clause-starved_unchanged g c = λ is. ends_to (ends_looks (g.met.H.Host.is_tree c.args.host.now) c.staging_place.ensures.unchanged) (λ u w s. s.0)

pub returns-in_err-make_folders-clause-any_moment : goal.returns-in_err-make_folders-clause-any_moment
returns-in_err-make_folders-clause-any_moment g c =
    let t = g.met.H.Host.is_tree in
    let p = c.args.path.now in
    let bytes = c.args.bytes.now in
    let folders = c.deref.ensures.value ∙ c.in_ok-folders.ensures in
    making p bytes folders (placed p bytes (t c.args.host.now) c.staging_place.ensures.unchanged c.in_ok-place.ensures.tells) (t c.staging_place.new.host) c.make_folders.ensures.frame

pub returns-in_err-make_folders-clause-fault_has_cause : goal.returns-in_err-make_folders-clause-fault_has_cause
returns-in_err-make_folders-clause-fault_has_cause g c =
    let t = g.met.H.Host.is_tree in
    let p = c.args.path.now in
    let bytes = c.args.bytes.now in
    let folders = c.deref.ensures.value ∙ c.in_ok-folders.ensures in
    fault_caused (CanReplace p) (λ v. IsLadder c.deref.result.now × AreFree c.deref.result.now v) _ _ _ _ _ (t c.args.host.now) c.staging_place.ensures.fault_has_cause.later
    (ends_goes (t c.args.host.now) (placed p bytes (t c.args.host.now) c.staging_place.ensures.unchanged c.in_ok-place.ensures.tells)) c.make_folders.ensures.fault_has_cause (same_fault _ _ _ c.in_err-make_folders.was c.from_residual-in_err-make_folders.ensures.1)
    (λ u v tree q can. subst (λ (l : List (List (List ℕ))). IsLadder l × AreFree l v) (sym folders) (ladder p, subst (AreFree (folders_of p)) (sym q.same) can.folders))

pub returns-in_err-stage-clause-any_moment : goal.returns-in_err-stage-clause-any_moment
returns-in_err-stage-clause-any_moment g c =
    let t = g.met.H.Host.is_tree in
    let p = c.args.path.now in
    let bytes = c.args.bytes.now in
    let folders = c.deref.ensures.value ∙ c.in_ok-folders.ensures in
    let first = placed p bytes (t c.args.host.now) c.staging_place.ensures.unchanged c.in_ok-place.ensures.tells in
    staging p bytes (housed p bytes folders first (t c.staging_place.new.host) c.make_folders.ensures.frame c.in_ok-make_folders.ensures.on_success c.make_folders.ensures.unsynced) (t c.make_folders.new.host) c.stage.ensures.frame

pub returns-in_err-stage-clause-fault_has_cause : goal.returns-in_err-stage-clause-fault_has_cause
returns-in_err-stage-clause-fault_has_cause g c =
    let t = g.met.H.Host.is_tree in
    let p = c.args.path.now in
    let bytes = c.args.bytes.now in
    let folders = c.deref.ensures.value ∙ c.in_ok-folders.ensures in
    let first = placed p bytes (t c.args.host.now) c.staging_place.ensures.unchanged c.in_ok-place.ensures.tells in
    let second = housed p bytes folders first (t c.staging_place.new.host) c.make_folders.ensures.frame c.in_ok-make_folders.ensures.on_success c.make_folders.ensures.unsynced in
    fault_caused (CanReplace p) (CanStage c.in_ok-place.place) _ _ _ _ _ (t c.args.host.now) (omega (arith, c.staging_place.ensures.fault_has_cause.later, c.make_folders.ensures.fault_has_cause.later)) (ends_goes (t c.args.host.now) second) c.stage.ensures.fault_has_cause
    (same_fault _ _ _ c.in_err-stage.was c.from_residual-in_err-stage.ensures.1) (λ u v tree q can. can_stage p c.in_ok-place.place u can q.staging q.made (q.dirs can))

pub returns-clause-any_moment : goal.returns-clause-any_moment
returns-clause-any_moment g c =
    let t = g.met.H.Host.is_tree in
    let p = c.args.path.now in
    let bytes = c.args.bytes.now in
    let folders = c.deref.ensures.value ∙ c.in_ok-folders.ensures in
    let first = placed p bytes (t c.args.host.now) c.staging_place.ensures.unchanged c.in_ok-place.ensures.tells in
    let second = housed p bytes folders first (t c.staging_place.new.host) c.make_folders.ensures.frame c.in_ok-make_folders.ensures.on_success c.make_folders.ensures.unsynced in
    let third = written p bytes second (t c.make_folders.new.host) c.stage.ensures.frame c.in_ok-stage.ensures.on_success c.in_ok-stage.ensures.made in
    moving p bytes third (t c.stage.new.host) c.move_onto.ensures.any_moment

pub returns-clause-on_success : goal.returns-clause-on_success
returns-clause-on_success g c =
    let t = g.met.H.Host.is_tree in
    let p = c.args.path.now in
    let bytes = c.args.bytes.now in
    let folders = c.deref.ensures.value ∙ c.in_ok-folders.ensures in
    let first = placed p bytes (t c.args.host.now) c.staging_place.ensures.unchanged c.in_ok-place.ensures.tells in
    let second = housed p bytes folders first (t c.staging_place.new.host) c.make_folders.ensures.frame c.in_ok-make_folders.ensures.on_success c.make_folders.ensures.unsynced in
    let third = written p bytes second (t c.make_folders.new.host) c.stage.ensures.frame c.in_ok-stage.ensures.on_success c.in_ok-stage.ensures.made in
    on_ok_weaker c.move_onto.result (λ moved. ends_on (ends_both moved c.move_onto.ensures.files) (ends_goes (t c.args.host.now) third) (t c.stage.new.host) (λ u v w tree q m. was_replaced p c.in_ok-place.place bytes q.staging q.ready m.0 q.made m.1)) c.move_onto.ensures.on_success

pub returns-clause-fault_has_cause : goal.returns-clause-fault_has_cause
returns-clause-fault_has_cause g c =
    let t = g.met.H.Host.is_tree in
    let p = c.args.path.now in
    let bytes = c.args.bytes.now in
    let folders = c.deref.ensures.value ∙ c.in_ok-folders.ensures in
    let first = placed p bytes (t c.args.host.now) c.staging_place.ensures.unchanged c.in_ok-place.ensures.tells in
    let second = housed p bytes folders first (t c.staging_place.new.host) c.make_folders.ensures.frame c.in_ok-make_folders.ensures.on_success c.make_folders.ensures.unsynced in
    let third = written p bytes second (t c.make_folders.new.host) c.stage.ensures.frame c.in_ok-stage.ensures.on_success c.in_ok-stage.ensures.made in
    fault_caused (CanReplace p) (CanMove c.in_ok-place.place p) _ _ _ _ _ (t c.args.host.now) (omega (arith, c.staging_place.ensures.fault_has_cause.later, c.make_folders.ensures.fault_has_cause.later, c.stage.ensures.fault_has_cause.later)) (ends_goes (t c.args.host.now) third) c.move_onto.ensures.fault_has_cause (λ e. e)
    (λ u v tree q can. q.can can)

pub returns-in_err-folders-clause-one : goal.returns-in_err-folders-clause-one
returns-in_err-folders-clause-one g c = ends_to (ends_start (g.met.H.Host.is_tree c.args.host.now)) (λ u w same. one_same same)

pub returns-in_err-place-clause-one : goal.returns-in_err-place-clause-one
returns-in_err-place-clause-one g c = ends_to (ends_looks (g.met.H.Host.is_tree c.args.host.now) c.staging_place.ensures.unchanged) (λ u w s. one_same s.0)

pub returns-in_err-make_folders-clause-one : goal.returns-in_err-make_folders-clause-one
returns-in_err-make_folders-clause-one g c =
    let t = g.met.H.Host.is_tree in
    ends_on c.make_folders.ensures.unsynced (ends_looks (t c.args.host.now) c.staging_place.ensures.unchanged) (t c.staging_place.new.host) (λ u v w tree q none. one_of_none (none_on (none_same q.0) none))

pub returns-in_err-stage-clause-one : goal.returns-in_err-stage-clause-one
returns-in_err-stage-clause-one g c =
    let t = g.met.H.Host.is_tree in
    let p = c.args.path.now in
    let bytes = c.args.bytes.now in
    let folders = c.deref.ensures.value ∙ c.in_ok-folders.ensures in
    let first = placed p bytes (t c.args.host.now) c.staging_place.ensures.unchanged c.in_ok-place.ensures.tells in
    let second = housed p bytes folders first (t c.staging_place.new.host) c.make_folders.ensures.frame c.in_ok-make_folders.ensures.on_success c.make_folders.ensures.unsynced in
    ends_on c.stage.ensures.one (ends_goes (t c.args.host.now) second) (t c.make_folders.new.host) (λ u v w tree q one. one_none q.none one)

pub returns-clause-one : goal.returns-clause-one
returns-clause-one g c =
    let t = g.met.H.Host.is_tree in
    let p = c.args.path.now in
    let bytes = c.args.bytes.now in
    let folders = c.deref.ensures.value ∙ c.in_ok-folders.ensures in
    let first = placed p bytes (t c.args.host.now) c.staging_place.ensures.unchanged c.in_ok-place.ensures.tells in
    let second = housed p bytes folders first (t c.staging_place.new.host) c.make_folders.ensures.frame c.in_ok-make_folders.ensures.on_success c.make_folders.ensures.unsynced in
    let third = written p bytes second (t c.make_folders.new.host) c.stage.ensures.frame c.in_ok-stage.ensures.on_success c.in_ok-stage.ensures.made in
    ends_on c.move_onto.ensures.files (ends_goes (t c.args.host.now) third) (t c.stage.new.host) (λ u v w tree q same. one_then_same (one_of_made q.made) same)
