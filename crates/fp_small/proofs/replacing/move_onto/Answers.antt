use Rattle.std.proofs.Common.{arith, sym, subst, Ok}
use Rattle.fp_host.specs.View.{View}
use Rattle.fp_host.specs.Calls.{Can, renames, syncs, Step}
use Rattle.fp_host.proofs.Cause.{clash_step}
use Rattle.fp_host.proofs.Goes.{begins, goes_on, makes_goes}
use Rattle.fp_host.proofs.Ending.{ends_start, ends_call, ends_on, ends_to, ends_in_tree, call_caused}
use Rattle.fp_small.specs.Move.{CanMove}
use Rattle.fp_small.proofs.Keeping.{files_renamed, files_synced, same_files_on}
use Rattle.fp_small.proofs.Staging.{Renamed, moves_rename, moves_sync, renamed, was_moved, can_rename}
use Rattle.fp_small.proofs.replacing.move_onto.Goals as goal

pub returns-in_err-rename-clause-any_moment : goal.returns-in_err-rename-clause-any_moment
returns-in_err-rename-clause-any_moment g c = begins (g.met.H.Host.is_tree c.args.host.now) (makes_goes c.rename.ensures.step) (λ u w t s. moves_rename t s) (λ u w t s e. moves_rename t e)

pub returns-in_err-rename-clause-fault_has_cause : goal.returns-in_err-rename-clause-fault_has_cause
returns-in_err-rename-clause-fault_has_cause g c =
    let t = g.met.H.Host.is_tree in
    let e = c.in_err-rename.ensures in
    call_caused (CanMove c.args.from.now c.args.to.now) (Can (renames c.args.from.now c.args.to.now)) _ _ _ _ _ (t c.args.host.now) (omega arith) (ends_start (t c.args.host.now)) e.step e.fault_has_cause c.from_residual.ensures.1 (λ v w step. clash_step step) (λ u v t q can. subst (Can (renames c.args.from.now c.args.to.now)) (sym q) (can_rename can))

pub returns-in_err-sync-clause-any_moment : goal.returns-in_err-sync-clause-any_moment
returns-in_err-sync-clause-any_moment g c =
    let t = g.met.H.Host.is_tree in
    let first = begins (t c.args.host.now) (makes_goes c.rename.ensures.step) (λ u w t s. moves_rename t s) (λ u w t s e. moves_rename t e) in
    goes_on (t c.rename.new.self) first (makes_goes c.sync.ensures.step) (λ u v w t r q s. moves_sync t q s) (λ u v w t r q s e. moves_sync t q e)

pub returns-clause-any_moment : goal.returns-clause-any_moment
returns-clause-any_moment g c =
    let t = g.met.H.Host.is_tree in
    let first = begins (t c.args.host.now) (makes_goes c.rename.ensures.step) (λ u w t s. moves_rename t s) (λ u w t s e. moves_rename t e) in
    goes_on (t c.rename.new.self) first (makes_goes c.sync.ensures.step) (λ u v w t r q s. moves_sync t q s) (λ u v w t r q s e. moves_sync t q e)

pub returns-clause-on_success : goal.returns-clause-on_success
returns-clause-on_success g c =
    let t = g.met.H.Host.is_tree in
    let first = ends_to (ends_call (t c.args.host.now) c.in_ok-rename.ensures.step) (λ u w s. renamed s) in
    ends_in_tree (t c.sync.new.self) (ends_on {Q' = λ u w. (v : View) × Renamed c.args.from.now c.args.to.now u v × Step syncs (Ok tt) v w} (ends_call (t c.rename.new.self) c.in_ok-sync.ensures.step) first (t c.rename.new.self) (λ u v w t q s. (v, q, s)))
    (λ u w t q. was_moved t q.1 q.2)

pub returns-in_err-rename-clause-files : goal.returns-in_err-rename-clause-files
returns-in_err-rename-clause-files g c = ends_to (ends_call (g.met.H.Host.is_tree c.args.host.now) c.rename.ensures.step) (λ u w s. files_renamed s)

pub returns-in_err-sync-clause-files : goal.returns-in_err-sync-clause-files
returns-in_err-sync-clause-files g c =
    let t = g.met.H.Host.is_tree in
    ends_on (ends_call (t c.rename.new.self) c.sync.ensures.step) (ends_call (t c.args.host.now) c.rename.ensures.step) (t c.rename.new.self) (λ u v w t q s. same_files_on (files_renamed q) (files_synced s))

pub returns-clause-files : goal.returns-clause-files
returns-clause-files g c =
    let t = g.met.H.Host.is_tree in
    ends_on (ends_call (t c.rename.new.self) c.sync.ensures.step) (ends_call (t c.args.host.now) c.rename.ensures.step) (t c.rename.new.self) (λ u v w t q s. same_files_on (files_renamed q) (files_synced s))
