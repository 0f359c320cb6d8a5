use Rattle.std.proofs.Common.{◌≡◌, List, sym, subst, arith}
use Rattle.std.proofs.lemmas.Result.{on_ok_weaker}
use Rattle.fp_host.specs.Paths.{absent}
use Rattle.fp_host.specs.Frame.{AtEnd}
use Rattle.fp_host.specs.Moments.{Always}
use Rattle.fp_host.proofs.Cause.{same_fault}
use Rattle.fp_host.proofs.Ending.{ends_start, ends_goes, ends_on, fault_caused, to_tree}
use Rattle.fp_host.proofs.Framed.{keeps_refl}
use Rattle.fp_host.proofs.Goes.{stays}
use Rattle.fp_small.specs.Folders.{ancestors, AreFree}
use Rattle.fp_small.specs.Replace.{CanReplace, Replaces, WasReplaced}
use Rattle.fp_small.proofs.Keeping.{files_stay}
use Rattle.ost_commit.specs.declared.built.BuiltObject.{BuiltObject}
use Rattle.ost_commit.specs.Objects.{have_of}
use Rattle.ost_refs.specs.Places.{place_path, remotes}
use Rattle.ost_refs.specs.Files.{ref_bytes}
use Rattle.ost_refs.specs.Changes.{CanWrite}
use Rattle.ost_refs.specs.declared.place.RefPlace.{RefPlace}
use Rattle.ost_export.specs.Staging.{AreWhole}
use Rattle.ost_export.specs.Storing.{StoresObjects, HasStored, CanStoreAll}
use Rattle.ost_export.specs.Exports.{CanExportAll, Furnishes, a_remote, config_path}
use Rattle.ost_export.proofs.Exported.{furnishes_first, known_at, furnishes_config, config_at, furnishes_remotes, remotes_at, exports_all, exports_last, exported_at, can_objects, can_write_config, can_make_remotes, can_write_ref}
use Rattle.ost_export.proofs.exporting.write_offer.Goals as goal

pub store_objects-requires-clause-whole : goal.store_objects-requires-clause-whole
store_objects-requires-clause-whole g c = subst AreWhole (sym c.as_slice.ensures) c.requires.whole

pub returns-in_err-place-clause-any_moment : goal.returns-in_err-place-clause-any_moment
returns-in_err-place-clause-any_moment g c = stays (g.met.H.Host.is_tree c.args.host.now) (λ u. record { keeps = keeps_refl; files = files_stay }) (λ u tree. record { keeps = keeps_refl; files = files_stay })

pub returns-in_err-store_objects-clause-any_moment : goal.returns-in_err-store_objects-clause-any_moment
returns-in_err-store_objects-clause-any_moment g c =
    let t = g.met.H.Host.is_tree in
    let stores = subst (λ (l : List BuiltObject). Always (StoresObjects (have_of l) c.args.root.now) (g.H.Host.moments c.args.host.now) (g.H.Host.moments c.store_objects.new.host)) c.as_slice.ensures c.store_objects.ensures.any_moment in
    exports_all c.requires.no_work (t c.args.host.now) (furnishes_first c.requires.no_work (t c.args.host.now) stores)

pub returns-in_err-store_objects-clause-starved : goal.returns-in_err-store_objects-clause-starved
returns-in_err-store_objects-clause-starved g c =
    let t = g.met.H.Host.is_tree in
    let stores = subst (λ (l : List BuiltObject). Always (StoresObjects (have_of l) c.args.root.now) (g.H.Host.moments c.args.host.now) (g.H.Host.moments c.store_objects.new.host)) c.as_slice.ensures c.store_objects.ensures.any_moment in
    λ is. ends_goes (t c.args.host.now) (furnishes_first {r = c.args.name.now} c.requires.no_work (t c.args.host.now) stores)

pub returns-in_err-store_objects-clause-fault_has_cause : goal.returns-in_err-store_objects-clause-fault_has_cause
returns-in_err-store_objects-clause-fault_has_cause g c =
    let t = g.met.H.Host.is_tree in
    let objects = c.args.built.now.objects in
    fault_caused (CanExportAll c.args.root.now c.args.name.now objects) (CanStoreAll c.args.root.now c.as_slice.result.now) _ _ _ _ _ (t c.args.host.now) (omega arith) (ends_start (t c.args.host.now)) c.store_objects.ensures.fault_has_cause
    (same_fault _ _ _ c.in_err-store_objects.was c.from_residual-in_err-store_objects.ensures.1) (λ u v tree q can. subst (λ (l : List BuiltObject). CanStoreAll c.args.root.now l v) (sym c.as_slice.ensures) (can_objects q can))

pub returns-in_err-write_config-clause-any_moment : goal.returns-in_err-write_config-clause-any_moment
returns-in_err-write_config-clause-any_moment g c =
    let t = g.met.H.Host.is_tree in
    let outer = c.requires.no_work in
    let stores = subst (λ (l : List BuiltObject). Always (StoresObjects (have_of l) c.args.root.now) (g.H.Host.moments c.args.host.now) (g.H.Host.moments c.store_objects.new.host)) c.as_slice.ensures c.store_objects.ensures.any_moment in
    let has = subst (λ (l : List BuiltObject). AtEnd (HasStored (have_of l) c.args.root.now) (g.H.Host.moments c.args.host.now) (g.H.Host.moments c.store_objects.new.host)) c.as_slice.ensures c.in_ok-store_objects.ensures.on_success in
    let first = furnishes_first {r = c.args.name.now} outer (t c.args.host.now) stores in
    let known = known_at {r = c.args.name.now} outer (t c.args.host.now) stores has in
    exports_all outer (t c.args.host.now) (furnishes_config outer (t c.store_objects.new.host) first known c.write_config.ensures.any_moment)

pub returns-in_err-write_config-clause-starved : goal.returns-in_err-write_config-clause-starved
returns-in_err-write_config-clause-starved g c =
    let t = g.met.H.Host.is_tree in
    let outer = c.requires.no_work in
    let stores = subst (λ (l : List BuiltObject). Always (StoresObjects (have_of l) c.args.root.now) (g.H.Host.moments c.args.host.now) (g.H.Host.moments c.store_objects.new.host)) c.as_slice.ensures c.store_objects.ensures.any_moment in
    let has = subst (λ (l : List BuiltObject). AtEnd (HasStored (have_of l) c.args.root.now) (g.H.Host.moments c.args.host.now) (g.H.Host.moments c.store_objects.new.host)) c.as_slice.ensures c.in_ok-store_objects.ensures.on_success in
    let first = furnishes_first {r = c.args.name.now} outer (t c.args.host.now) stores in
    let known = known_at {r = c.args.name.now} outer (t c.args.host.now) stores has in
    λ is. ends_goes (t c.args.host.now) (furnishes_config outer (t c.store_objects.new.host) first known c.write_config.ensures.any_moment)

pub returns-in_err-write_config-clause-fault_has_cause : goal.returns-in_err-write_config-clause-fault_has_cause
returns-in_err-write_config-clause-fault_has_cause g c =
    let t = g.met.H.Host.is_tree in
    let outer = c.requires.no_work in
    let stores = subst (λ (l : List BuiltObject). Always (StoresObjects (have_of l) c.args.root.now) (g.H.Host.moments c.args.host.now) (g.H.Host.moments c.store_objects.new.host)) c.as_slice.ensures c.store_objects.ensures.any_moment in
    let has = subst (λ (l : List BuiltObject). AtEnd (HasStored (have_of l) c.args.root.now) (g.H.Host.moments c.args.host.now) (g.H.Host.moments c.store_objects.new.host)) c.as_slice.ensures c.in_ok-store_objects.ensures.on_success in
    let first = furnishes_first {r = c.args.name.now} outer (t c.args.host.now) stores in
    let known = known_at {r = c.args.name.now} outer (t c.args.host.now) stores has in
    fault_caused (CanExportAll c.args.root.now c.args.name.now c.args.built.now.objects) (CanReplace (config_path c.args.root.now)) _ _ _ _ _ (t c.args.host.now) c.store_objects.ensures.fault_has_cause.later (to_tree (t c.store_objects.new.host) known)
    c.write_config.ensures.fault_has_cause (same_fault _ _ _ c.in_err-write_config.was c.from_residual-in_err-write_config.ensures.1) (λ u v tree q can. can_write_config outer q.0 q.1 can)

pub returns-in_err-make_remotes-clause-any_moment : goal.returns-in_err-make_remotes-clause-any_moment
returns-in_err-make_remotes-clause-any_moment g c =
    let t = g.met.H.Host.is_tree in
    let outer = c.requires.no_work in
    let stores = subst (λ (l : List BuiltObject). Always (StoresObjects (have_of l) c.args.root.now) (g.H.Host.moments c.args.host.now) (g.H.Host.moments c.store_objects.new.host)) c.as_slice.ensures c.store_objects.ensures.any_moment in
    let has = subst (λ (l : List BuiltObject). AtEnd (HasStored (have_of l) c.args.root.now) (g.H.Host.moments c.args.host.now) (g.H.Host.moments c.store_objects.new.host)) c.as_slice.ensures c.in_ok-store_objects.ensures.on_success in
    let first = furnishes_first {r = c.args.name.now} outer (t c.args.host.now) stores in
    let known = known_at {r = c.args.name.now} outer (t c.args.host.now) stores has in
    let second = furnishes_config outer (t c.store_objects.new.host) first known c.write_config.ensures.any_moment in
    exports_all outer (t c.args.host.now) (furnishes_remotes outer (t c.write_config.new.host) second c.make_remotes.ensures.frame)

pub returns-in_err-make_remotes-clause-starved : goal.returns-in_err-make_remotes-clause-starved
returns-in_err-make_remotes-clause-starved g c =
    let t = g.met.H.Host.is_tree in
    let outer = c.requires.no_work in
    let stores = subst (λ (l : List BuiltObject). Always (StoresObjects (have_of l) c.args.root.now) (g.H.Host.moments c.args.host.now) (g.H.Host.moments c.store_objects.new.host)) c.as_slice.ensures c.store_objects.ensures.any_moment in
    let has = subst (λ (l : List BuiltObject). AtEnd (HasStored (have_of l) c.args.root.now) (g.H.Host.moments c.args.host.now) (g.H.Host.moments c.store_objects.new.host)) c.as_slice.ensures c.in_ok-store_objects.ensures.on_success in
    let first = furnishes_first {r = c.args.name.now} outer (t c.args.host.now) stores in
    let known = known_at {r = c.args.name.now} outer (t c.args.host.now) stores has in
    let second = furnishes_config outer (t c.store_objects.new.host) first known c.write_config.ensures.any_moment in
    λ is. ends_goes (t c.args.host.now) (furnishes_remotes outer (t c.write_config.new.host) second c.make_remotes.ensures.frame)

pub returns-in_err-make_remotes-clause-fault_has_cause : goal.returns-in_err-make_remotes-clause-fault_has_cause
returns-in_err-make_remotes-clause-fault_has_cause g c =
    let t = g.met.H.Host.is_tree in
    let outer = c.requires.no_work in
    let stores = subst (λ (l : List BuiltObject). Always (StoresObjects (have_of l) c.args.root.now) (g.H.Host.moments c.args.host.now) (g.H.Host.moments c.store_objects.new.host)) c.as_slice.ensures c.store_objects.ensures.any_moment in
    let has = subst (λ (l : List BuiltObject). AtEnd (HasStored (have_of l) c.args.root.now) (g.H.Host.moments c.args.host.now) (g.H.Host.moments c.store_objects.new.host)) c.as_slice.ensures c.in_ok-store_objects.ensures.on_success in
    let first = furnishes_first {r = c.args.name.now} outer (t c.args.host.now) stores in
    let known = known_at {r = c.args.name.now} outer (t c.args.host.now) stores has in
    let configured = config_at outer (t c.store_objects.new.host) (t c.write_config.new.host) known c.write_config.ensures.any_moment c.in_ok-write_config.ensures.on_success in
    let root = c.args.root.now in
    fault_caused (CanExportAll root c.args.name.now c.args.built.now.objects) (λ v. v.names (remotes root) ≡ absent → AreFree (ancestors (a_remote root)) v) _ _ _ _ _ (t c.args.host.now) (omega (arith, c.store_objects.ensures.fault_has_cause.later, c.write_config.ensures.fault_has_cause.later))
    (to_tree (t c.write_config.new.host) configured) c.make_remotes.ensures.fault_has_cause (same_fault _ _ _ c.in_err-make_remotes.was c.from_residual-in_err-make_remotes.ensures.1) (λ u v tree q can. can_make_remotes outer q.0 q.1.known can)

pub returns-clause-any_moment : goal.returns-clause-any_moment
returns-clause-any_moment g c =
    let t = g.met.H.Host.is_tree in
    let outer = c.requires.no_work in
    let stores = subst (λ (l : List BuiltObject). Always (StoresObjects (have_of l) c.args.root.now) (g.H.Host.moments c.args.host.now) (g.H.Host.moments c.store_objects.new.host)) c.as_slice.ensures c.store_objects.ensures.any_moment in
    let has = subst (λ (l : List BuiltObject). AtEnd (HasStored (have_of l) c.args.root.now) (g.H.Host.moments c.args.host.now) (g.H.Host.moments c.store_objects.new.host)) c.as_slice.ensures c.in_ok-store_objects.ensures.on_success in
    let first = furnishes_first {r = c.args.name.now} outer (t c.args.host.now) stores in
    let known = known_at {r = c.args.name.now} outer (t c.args.host.now) stores has in
    let second = furnishes_config outer (t c.store_objects.new.host) first known c.write_config.ensures.any_moment in
    let configured = config_at outer (t c.store_objects.new.host) (t c.write_config.new.host) known c.write_config.ensures.any_moment c.in_ok-write_config.ensures.on_success in
    let third = furnishes_remotes outer (t c.write_config.new.host) second c.make_remotes.ensures.frame in
    let all = remotes_at outer (t c.write_config.new.host) (t c.make_remotes.new.host) configured c.make_remotes.ensures.frame c.in_ok-make_remotes.ensures.on_success in
    let root = c.args.root.now in
    let bytes = ref_bytes c.args.built.now.commit in
    let writes = subst (λ (p : RefPlace). Always (Replaces (place_path root p) bytes) (g.H.Host.moments c.make_remotes.new.host) (g.H.Host.moments c.write_ref.new.host)) c.in_ok-place.ensures c.write_ref.ensures.any_moment in
    exports_last outer (t c.args.host.now) (t c.make_remotes.new.host) third all writes

pub returns-clause-on_success : goal.returns-clause-on_success
returns-clause-on_success g c =
    let t = g.met.H.Host.is_tree in
    let outer = c.requires.no_work in
    let stores = subst (λ (l : List BuiltObject). Always (StoresObjects (have_of l) c.args.root.now) (g.H.Host.moments c.args.host.now) (g.H.Host.moments c.store_objects.new.host)) c.as_slice.ensures c.store_objects.ensures.any_moment in
    let has = subst (λ (l : List BuiltObject). AtEnd (HasStored (have_of l) c.args.root.now) (g.H.Host.moments c.args.host.now) (g.H.Host.moments c.store_objects.new.host)) c.as_slice.ensures c.in_ok-store_objects.ensures.on_success in
    let first = furnishes_first {r = c.args.name.now} outer (t c.args.host.now) stores in
    let known = known_at {r = c.args.name.now} outer (t c.args.host.now) stores has in
    let second = furnishes_config outer (t c.store_objects.new.host) first known c.write_config.ensures.any_moment in
    let configured = config_at outer (t c.store_objects.new.host) (t c.write_config.new.host) known c.write_config.ensures.any_moment c.in_ok-write_config.ensures.on_success in
    let third = furnishes_remotes outer (t c.write_config.new.host) second c.make_remotes.ensures.frame in
    let all = remotes_at outer (t c.write_config.new.host) (t c.make_remotes.new.host) configured c.make_remotes.ensures.frame c.in_ok-make_remotes.ensures.on_success in
    let root = c.args.root.now in
    let bytes = ref_bytes c.args.built.now.commit in
    let writes = subst (λ (p : RefPlace). Always (Replaces (place_path root p) bytes) (g.H.Host.moments c.make_remotes.new.host) (g.H.Host.moments c.write_ref.new.host)) c.in_ok-place.ensures c.write_ref.ensures.any_moment in
    on_ok_weaker c.write_ref.result
    (λ done. exported_at outer c.args.built.now.commit c.requires.clean (t c.make_remotes.new.host) (t c.write_ref.new.host) all writes
    (subst (λ (p : RefPlace). AtEnd (WasReplaced (place_path root p) bytes) (g.H.Host.moments c.make_remotes.new.host) (g.H.Host.moments c.write_ref.new.host)) c.in_ok-place.ensures done)) c.write_ref.ensures.on_success

pub returns-clause-starved : goal.returns-clause-starved
returns-clause-starved g c =
    let t = g.met.H.Host.is_tree in
    let outer = c.requires.no_work in
    let stores = subst (λ (l : List BuiltObject). Always (StoresObjects (have_of l) c.args.root.now) (g.H.Host.moments c.args.host.now) (g.H.Host.moments c.store_objects.new.host)) c.as_slice.ensures c.store_objects.ensures.any_moment in
    let has = subst (λ (l : List BuiltObject). AtEnd (HasStored (have_of l) c.args.root.now) (g.H.Host.moments c.args.host.now) (g.H.Host.moments c.store_objects.new.host)) c.as_slice.ensures c.in_ok-store_objects.ensures.on_success in
    let first = furnishes_first {r = c.args.name.now} outer (t c.args.host.now) stores in
    let known = known_at {r = c.args.name.now} outer (t c.args.host.now) stores has in
    let second = furnishes_config outer (t c.store_objects.new.host) first known c.write_config.ensures.any_moment in
    let third = furnishes_remotes outer (t c.write_config.new.host) second c.make_remotes.ensures.frame in
    λ is. ends_on (c.write_ref.ensures.starved_unchanged is) (ends_goes (t c.args.host.now) third) (t c.make_remotes.new.host)
    (λ u v w tree f same. subst (Furnishes (have_of c.args.built.now.objects) c.args.root.now c.args.name.now u) (sym same) f)

pub returns-clause-fault_has_cause : goal.returns-clause-fault_has_cause
returns-clause-fault_has_cause g c =
    let t = g.met.H.Host.is_tree in
    let outer = c.requires.no_work in
    let stores = subst (λ (l : List BuiltObject). Always (StoresObjects (have_of l) c.args.root.now) (g.H.Host.moments c.args.host.now) (g.H.Host.moments c.store_objects.new.host)) c.as_slice.ensures c.store_objects.ensures.any_moment in
    let has = subst (λ (l : List BuiltObject). AtEnd (HasStored (have_of l) c.args.root.now) (g.H.Host.moments c.args.host.now) (g.H.Host.moments c.store_objects.new.host)) c.as_slice.ensures c.in_ok-store_objects.ensures.on_success in
    let first = furnishes_first {r = c.args.name.now} outer (t c.args.host.now) stores in
    let known = known_at {r = c.args.name.now} outer (t c.args.host.now) stores has in
    let second = furnishes_config outer (t c.store_objects.new.host) first known c.write_config.ensures.any_moment in
    let configured = config_at outer (t c.store_objects.new.host) (t c.write_config.new.host) known c.write_config.ensures.any_moment c.in_ok-write_config.ensures.on_success in
    let all = remotes_at outer (t c.write_config.new.host) (t c.make_remotes.new.host) configured c.make_remotes.ensures.frame c.in_ok-make_remotes.ensures.on_success in
    let root = c.args.root.now in
    fault_caused (CanExportAll root c.args.name.now c.args.built.now.objects) (CanWrite root c.in_ok-place.place) _ _ _ c.write_ref.result c.write_ref.result (t c.args.host.now)
    (omega (arith, c.store_objects.ensures.fault_has_cause.later, c.write_config.ensures.fault_has_cause.later, c.make_remotes.ensures.fault_has_cause.later)) (to_tree (t c.make_remotes.new.host) all) c.write_ref.ensures.fault_has_cause (λ e. e)
    (λ u v tree q can. subst (λ (p : RefPlace). CanWrite root p v) (sym c.in_ok-place.ensures) (can_write_ref outer q.0 q.1.known can))
