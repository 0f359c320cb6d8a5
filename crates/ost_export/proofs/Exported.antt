-- A commit that is offered.
use Rattle.std.proofs.Common.{◌≡◌, ◌⊎◌, inl, inr, ℕ, List, ◌∷◌, length, Option, Some, None, Result, Ok, refl, sym, ◌∙◌, ap, subst, arith, codes, Contains}
use Rattle.fp_host.specs.Paths.{Elements, absent, dir, file}
use Rattle.fp_host.specs.View.{View, IsTree}
use Rattle.fp_host.specs.Calls.{syncs, done, Step}
use Rattle.fp_host.specs.declared.host.HostError.{HostError}
use Rattle.fp_host.proofs.Follow.{called}
use Rattle.fp_host.specs.Outcome.{Disk, Leaves, shows, spot_of, holding}
use Rattle.fp_host.specs.Frame.{Keeps, Frame, AtEnd, NoPath}
use Rattle.fp_host.specs.Moments.{Moments, Always, Makes}
use Rattle.fp_host.proofs.Framed.{IsTold, keeps_refl, keeps_on, keeps_to}
use Rattle.fp_host.proofs.Settled.{at_tree, settled_disk}
use Rattle.fp_host.proofs.Goes.{begins, goes_on, makes_goes}
use Rattle.fp_host.proofs.Ending.{ends_on, ends_call, ends_both, ends_goes, ends_frame, ends_to, goes_known, to_tree}
use Rattle.fp_small.specs.Clear.{IsWithin}
use Rattle.fp_small.specs.Files.{KeepsFiles}
use Rattle.fp_small.specs.Folders.{ancestors, AreFree, FoldersAt, DirsAt}
use Rattle.fp_small.specs.Replace.{IsStaging, folders_of, Replaces, WasReplaced, CanReplace}
use Rattle.fp_small.specs.Shares.{Shares}
use Rattle.fp_small.proofs.Keeping.{files_stay, files_on, files_kept}
use Rattle.fp_small.proofs.Sharing.{shares_on, shares_to, shares_empty, shares_made}
use Rattle.fp_small.proofs.Replacement.{ancestors_above}
use Rattle.fp_name.specs.Refs.{Ref}
use Rattle.fp_base.specs.declared.object.ObjKind.{ObjKind}
use Rattle.ost_model.specs.declared.object.Object.{Object}
use Rattle.ost_model.specs.Objects.{Have, object_path, object_at, store}
use Rattle.ost_model.specs.Order.{first_fault}
use Rattle.ost_model.proofs.Faults.{clean_more}
use Rattle.ost_store.specs.Stays.{Stays}
use Rattle.ost_store.proofs.Staying.{shown_stays}
use Rattle.ost_store.proofs.ObjectPaths.{object_within}
use Rattle.ost_commit.specs.declared.built.BuiltObject.{BuiltObject}
use Rattle.ost_refs.specs.Places.{remotes}
use Rattle.ost_refs.specs.Files.{ref_bytes}
use Rattle.ost_refs.specs.Changes.{CanWrite}
use Rattle.ost_refs.specs.declared.place.RefPlace.TheVariants.{Head}
use Rattle.ost_export.specs.Staging.{IsApart}
use Rattle.ost_export.specs.Storing.{IsNoWork, IsWork, StoresObjects, IsFitFor, HasStored, CanStoreAll}
use Rattle.ost_export.specs.Exports.{config_path, config_text, ref_path, a_remote, IsExportFolder, Furnishes, ExportsAt, ExportsName, Exports, ExportsSynced, FurnishesSynced, AreFit, IsOffered, IsExported, WasExported, CanExport, CanExportAll}
use Rattle.ost_export.proofs.Paths.{IsBranch, two_branches, apart_of, branch_off, branch_under, objects_branch, config_branch, refs_branch, one_work, none_below}
use Rattle.ost_export.proofs.Furnished.{refs_within, remotes_within, folder_cases, FurnishStep, furnishes_on, furnishes_objects, staging_on, work_of, staging_depth, step_config, step_remotes, can_config, can_remotes, can_write}

-- ---- the frame

pub record ExportStep (have : Have) (root : Elements) (r : Ref) (commit : List ℕ) (u v w : View) : Type 0 where
  pub keeps : Keeps (ExportsAt have root r commit u) (ExportsName have root r u) (IsWork u) v w
  pub files : KeepsFiles v w

exports_on : {have : Have} {root : Elements} {r : Ref} {commit : List ℕ} {u v w : View} → Exports have root r commit u v → ExportStep have root r commit u v w → Exports have root r commit u w
exports_on first second = record { keeps = keeps_on first.keeps second.keeps; files = files_on first.files second.files }

pub exports_furnished : {have : Have} {root : Elements} {r : Ref} {commit : List ℕ} {u w : View} → Furnishes have root r u w → Exports have root r commit u w
exports_furnished furnishes = record { keeps = keeps_to (λ q spot h. inl h) (λ q e h. inl h) (λ q work. work) (λ q id work h. work) furnishes.keeps; files = furnishes.files }

-- what is known before the ref is written
pub record Known (have : Have) (root : Elements) (r : Ref) (u v : View) : Type 0 where
  pub place : Elements
  pub staging : IsStaging u place
  pub furnishes : Furnishes have root r u v
  pub gone : v.names place ≡ absent
  pub stored : (d : List ℕ) (kind : ObjKind) (object : Object) → have d kind ≡ Some object → IsFitFor root d kind object u → store root (shows v) d kind ≡ Some object
  pub shares : Shares (IsExported root r) u v

-- `config` is there
pub record HasConfig (root : Elements) (v : View) : Type 0 where
  pub id : ℕ
  pub name : v.names (config_path root) ≡ file id
  pub row : v.files id ≡ Some (record { mode = 420; bytes = config_text })

pub record KnownConfig (have : Have) (root : Elements) (r : Ref) (u v : View) : Type 0 where
  pub known : Known have root r u v
  pub config : HasConfig root v

-- and the folder of the remotes' refs
pub record KnownAll (have : Have) (root : Elements) (r : Ref) (u v : View) : Type 0 where
  pub known : Known have root r u v
  pub config : HasConfig root v
  pub remotes : CanExport root r u → u.names (remotes root) ≡ absent → v.names (remotes root) ≡ dir

-- ---- names that stay

module _ {root : Elements} (outer : IsNoWork root) {t : Elements} (apart : IsApart root t) where
  replaced_stays : (x y : List ℕ) (q p : Elements) (bytes : List ℕ) {v w : View} → IsBranch x → (x ≡ y → ⊥) → IsWithin (x ∷ root) q → IsWithin (y ∷ root) p → Replaces p bytes v w → Stays q v w
  replaced_stays x y q p bytes {v = v} branch off in_x in_y writes = record {
    name = elim (writes.keeps.names q) [
      | inl same ↦ same
      | inr put ↦ elim put [
        | inl new ↦ absurd (two_branches x y root q p off in_x in_y (inl (sym new.0)))
        | inr other ↦ elim other [
          | inl made ↦ elim (folder_cases p q made.0) [
            | inl up ↦ absurd (two_branches x y root q p off in_x in_y (inr up))
            | inr work ↦ elim work [
              | inl is ↦ absurd (branch_under apart x branch q in_x (subst (IsWithin q) (sym apart.is) (inr (inr (inl is)))))
              | inr is ↦ absurd (branch_under apart x branch q in_x (subst (IsWithin q) (sym apart.is) (inr (inl is))))
            ]
          ]
          | inr s ↦ absurd (branch_off (apart_of outer s) x branch q in_x (inl refl))
        ]
      ]
    ];
    row = λ id f is some. writes.files.rows id f some;
  }

  remotes_stays : (x : List ℕ) (q : Elements) {v w : View} → IsBranch x → (x ≡ codes "refs" → ⊥) → IsWithin (x ∷ root) q → Keeps (FoldersAt (ancestors (a_remote root))) (DirsAt (ancestors (a_remote root))) NoPath v w → Stays q v w
  remotes_stays x q branch off in_x keeps = record {
    name = elim (keeps.names q) [
      | inl same ↦ same
      | inr made ↦ absurd (two_branches x (codes "refs") root q (a_remote root) off in_x (inr (inr (inl refl))) (inr (ancestors_above (a_remote root) q made.0)))
    ];
    row = λ id f is some. (files_kept keeps).rows id f some;
  }

stored_stays : {root : Elements} {v w : View} (d : List ℕ) (kind : ObjKind) (object : Object) → IsTree v → IsTree w → Stays (object_path root d kind) v w → store root (shows v) d kind ≡ Some object → store root (shows w) d kind ≡ Some object
stored_stays {root = root} {v = v} {w = w} d kind object tree tree' stays there = ap (object_at kind) (shown_stays (object_path root d kind) v w stays tree tree') ∙ there

config_stays : {root : Elements} {v w : View} → Stays (config_path root) v w → HasConfig root v → HasConfig root w
config_stays stays config = record { id = config.id; name = stays.name ∙ config.name; row = stays.row config.id _ config.name config.row }

-- ---- the steps

pub known_objects : {have : Have} {root : Elements} {r : Ref} {u v : View} → StoresObjects have root u v → HasStored have root u v → Known have root r u v
known_objects stores has = record { place = has.place; staging = has.staging; furnishes = furnishes_objects stores; gone = has.gone; stored = has.stored; shares = shares_to (λ q h. inl h) has.shares }

module _ {have : Have} {root : Elements} {r : Ref} (outer : IsNoWork root) {u v : View} (tree : IsTree v) where
  pub config_step : (known : Known have root r u v) {w : View} → Replaces (config_path root) config_text v w → FurnishStep have root r u v w
  config_step known writes = step_config (apart_of outer known.staging) known.staging known.furnishes known.gone writes

  pub known_config : {w : View} → IsTree w → Known have root r u v → Replaces (config_path root) config_text v w → WasReplaced (config_path root) config_text v w → KnownConfig have root r u w
  known_config tree' known writes was =
      let apart = apart_of outer known.staging in
      record {
        known = record {
          place = known.place;
          staging = known.staging;
          furnishes = furnishes_on known.furnishes (config_step known writes);
          gone = was.work known.place (staging_on apart known.staging known.furnishes known.gone);
          stored = λ d kind object is fit. stored_stays d kind object tree tree' (replaced_stays outer apart (codes "objects") (codes "config") (object_path root d kind) (config_path root) config_text objects_branch (λ same. cc same) (object_within root d kind) (inl refl) writes) (known.stored d kind object is fit);
          shares = shares_on known.shares (shares_made (inr (inl refl)) was.made) writes.files;
        };
        config = record { id = was.made.id; name = was.made.name; row = was.made.row };
      }

  pub known_remotes : {w : View} → IsTree w → KnownConfig have root r u v → Keeps (FoldersAt (ancestors (a_remote root))) (DirsAt (ancestors (a_remote root))) NoPath v w
      → (AreFree (ancestors (a_remote root)) v → v.names (remotes root) ≡ absent → w.names (remotes root) ≡ dir) → KnownAll have root r u w
  known_remotes {w = w} tree' k keeps made =
      let known = k.known in
      let apart = apart_of outer known.staging in
      record {
        known = record {
          place = known.place;
          staging = known.staging;
          furnishes = furnishes_on known.furnishes (step_remotes keeps);
          gone = elim (keeps.names known.place) [
            | inl same ↦ same ∙ known.gone
            | inr put ↦ absurd (branch_off apart (codes "refs") refs_branch (a_remote root) (inr (inr (inl refl))) (inr (ancestors_above (a_remote root) known.place put.0)))
          ];
          stored = λ d kind object is fit. stored_stays d kind object tree tree' (remotes_stays outer apart (codes "objects") (object_path root d kind) objects_branch (λ same. cc same) (object_within root d kind) keeps) (known.stored d kind object is fit);
          shares = shares_on known.shares (shares_empty keeps) (files_kept keeps);
        };
        config = config_stays (remotes_stays outer apart (codes "config") (config_path root) config_branch (λ same. cc same) (inl refl) keeps) k.config;
        remotes = λ can none. elim (known.furnishes.keeps.names (remotes root)) [
          | inl same ↦ made (can_remotes apart known.staging known.furnishes known.gone tree can (same ∙ none)) (same ∙ none)
          | inr put ↦ elim put [
            | inl work ↦ absurd (branch_off apart (codes "refs") refs_branch (remotes root) (remotes_within root) (one_work known.staging work))
            | inr other ↦ elim other [
              | inl new ↦ absurd (omega (arith, ap length new.at))
              | inr more ↦ elim more [
                | inl there ↦ elim (keeps.names (remotes root)) [ inl same ↦ same ∙ there.1 | inr again ↦ again.1 ]
                | inr config ↦ absurd (omega (arith, ap length config.0))
              ]
            ]
          ]
        ];
      }

  pub ref_step : {commit : List ℕ} (known : Known have root r u v) {w : View} → Replaces (ref_path root r) (ref_bytes commit) v w → ExportStep have root r commit u v w
  ref_step known writes =
      let apart = apart_of outer known.staging in
      record {
        keeps = keeps_to
            (λ q spot h. elim h [
              | inl new ↦ inr new
              | inr other ↦ elim other [
                | inl made ↦ inl (inr (inr (inl (folder q made.0, made.1))))
                | inr work ↦ inl (inl (work_of apart known.staging known.furnishes known.gone q work, inr (staging_depth apart known.staging known.furnishes known.gone q work)))
              ]
            ])
            (λ q e h. elim h [
              | inl new ↦ inr new
              | inr other ↦ elim other [
                | inl made ↦ inl (inr (inr (inl (folder q made.0, made.1))))
                | inr work ↦ inl (inl (work_of apart known.staging known.furnishes known.gone q work))
              ]
            ])
            (λ q work. work_of apart known.staging known.furnishes known.gone q work)
            (λ q id work h. elim h [
              | inl new ↦ absurd (branch_off apart (codes "refs") refs_branch (ref_path root r) (refs_within root r) (subst (IsWithin known.place) new.0 (one_work known.staging work)))
              | inr other ↦ elim other [ inl made ↦ absurd (cc made.1) | inr s ↦ s ]
            ])
            writes.keeps;
        files = writes.files;
      }
    where
      folder : (q : Elements) → Contains (folders_of (ref_path root r)) q → IsExportFolder root r q
      folder q has = elim (folder_cases (ref_path root r) q has) [
        | inl up ↦ inl (inr up)
        | inr work ↦ elim work [ inl is ↦ inl (inl (inr (inl is))) | inr is ↦ inl (inl (inr (inr is))) ]
      ]

  pub exports_ref : {commit : List ℕ} (known : Known have root r u v) {w : View} → Replaces (ref_path root r) (ref_bytes commit) v w → Exports have root r commit u w
  exports_ref known writes = exports_on (exports_furnished known.furnishes) (ref_step known writes)

-- ---- the end

module _ {have : Have} {root : Elements} {r : Ref} (commit : List ℕ) (outer : IsNoWork root) (clean : first_fault have commit ≡ None) {u v w : View} (tree : IsTree v) (tree' : IsTree w) (k : KnownAll have root r u v)
    (writes : Replaces (ref_path root r) (ref_bytes commit) v w) (was : WasReplaced (ref_path root r) (ref_bytes commit) v w) where
  apart : IsApart root k.known.place
  apart = apart_of outer k.known.staging

  config_there : HasConfig root w
  config_there = config_stays (replaced_stays outer apart (codes "config") (codes "refs") (config_path root) (ref_path root r) (ref_bytes commit) config_branch (λ same. cc same) (inl refl) (refs_within root r) writes) k.config

  stored_there : AreFit have root u → (d : List ℕ) (kind : ObjKind) (object : Object) → have d kind ≡ Some object → store root (shows w) d kind ≡ Some object
  stored_there fit d kind object is =
      stored_stays d kind object tree tree' (replaced_stays outer apart (codes "objects") (codes "refs") (object_path root d kind) (ref_path root r) (ref_bytes commit) objects_branch (λ same. cc same) (object_within root d kind) (refs_within root r) writes)
      (k.known.stored d kind object is (fit.each d kind object is))

  gone_there : w.names k.known.place ≡ absent
  gone_there = was.work k.known.place (staging_on apart k.known.staging k.known.furnishes k.known.gone)

  left : (disk : Disk) → Leaves w disk → (q : Elements) → disk q ≡ shows w q
  left disk l q = settled_disk w tree' was.settled disk l q ∙ ap (spot_of w.files) (sym (at_tree w tree' q))

  offered : AreFit have root u → (disk : Disk) → Leaves w disk → IsOffered have root r commit disk
  offered fit disk l =
      let stored : (d : List ℕ) (kind : ObjKind) (object : Object) → have d kind ≡ Some object → store root disk d kind ≡ Some object = λ d kind object is. ap (object_at kind) (left disk l (object_path root d kind)) ∙ stored_there fit d kind object is in
      record {
        config = (config_there.id, settled_disk w tree' was.settled disk l (config_path root) ∙ ap (spot_of w.files) config_there.name ∙ ap (holding config_there.id) config_there.row);
        ref = was.new.each disk l;
        stored = stored;
        clean = clean_more have (store root disk) commit clean stored;
      }

  pub was_exported : WasExported have root r commit u w
  was_exported = record {
    settled = was.settled;
    offered = offered;
    remotes = λ can none. elim (writes.keeps.names (remotes root)) [
      | inl same ↦ same ∙ k.remotes can none
      | inr put ↦ elim put [
        | inl new ↦ absurd (omega (arith, ap length new.0))
        | inr other ↦ elim other [ inl made ↦ made.1 | inr s ↦ absurd (branch_off (apart_of outer s) (codes "refs") refs_branch (remotes root) (remotes_within root) (inl refl)) ]
      ]
    ];
    work = λ q work. none_below w tree' k.known.place q gone_there (one_work k.known.staging work);
    shares = shares_on k.known.shares (shares_made (inr (inr refl)) was.made) writes.files;
  }

-- ---- over the moments

module _ {have : Have} {root : Elements} {r : Ref} (outer : IsNoWork root) where
  pub furnishes_first : {a b : Option Moments} → IsTold a → Always (StoresObjects have root) a b → Always (Furnishes have root r) a b
  furnishes_first told stores = begins told stores (λ u w tree s. furnishes_objects s) (λ u w tree s e. furnishes_objects s)

  pub known_at : {a b : Option Moments} → IsTold a → Always (StoresObjects have root) a b → AtEnd (HasStored have root) a b → AtEnd (Known have root r) a b
  known_at told stores has = ends_to (ends_both (ends_goes told stores) has) (λ u w q. known_objects q.0 q.1)

  pub furnishes_config : {a b c : Option Moments} → IsTold b → Always (Furnishes have root r) a b → AtEnd (Known have root r) a b → Always (Replaces (config_path root) config_text) b c → Always (Furnishes have root r) a c
  furnishes_config told so_far known writes = goes_on told (goes_known so_far known) writes (λ u v w tree f q s. furnishes_on f (config_step outer tree q.1 s)) (λ u v w tree f q s e. furnishes_on f (config_step outer tree q.1 s))

  pub config_at : {a b c : Option Moments} → IsTold b → IsTold c → AtEnd (Known have root r) a b → Always (Replaces (config_path root) config_text) b c → AtEnd (WasReplaced (config_path root) config_text) b c → AtEnd (KnownConfig have root r) a c
  config_at told told' known writes was = ends_on (to_tree told' (ends_both (ends_goes told writes) was)) known told (λ u v w tree q s. known_config outer tree s.0 q s.1.0 s.1.1)

  pub furnishes_remotes : {a b c : Option Moments} → IsTold b → Always (Furnishes have root r) a b → Frame (FoldersAt (ancestors (a_remote root))) (DirsAt (ancestors (a_remote root))) NoPath b c → Always (Furnishes have root r) a c
  furnishes_remotes told so_far frame = goes_on told so_far frame.goes (λ u v w tree f q s. furnishes_on f (step_remotes s)) (λ u v w tree f q s e. furnishes_on f (step_remotes s))

  pub remotes_at : {a b c : Option Moments} → IsTold b → IsTold c → AtEnd (KnownConfig have root r) a b → Frame (FoldersAt (ancestors (a_remote root))) (DirsAt (ancestors (a_remote root))) NoPath b c
      → AtEnd (λ v w. AreFree (ancestors (a_remote root)) v → v.names (remotes root) ≡ absent → w.names (remotes root) ≡ dir) b c → AtEnd (KnownAll have root r) a c
  remotes_at told told' known frame made = ends_on (to_tree told' (ends_both (ends_frame told frame) made)) known told (λ u v w tree q s. known_remotes outer tree s.0 q s.1.0 s.1.1)

  pub exports_all : {commit : List ℕ} {a b : Option Moments} → IsTold a → Always (Furnishes have root r) a b → Always (Exports have root r commit) a b
  exports_all told so_far = begins told so_far (λ u w tree f. exports_furnished f) (λ u w tree f e. exports_furnished f)

  pub exports_last : {commit : List ℕ} {a b c : Option Moments} → IsTold a → IsTold b → Always (Furnishes have root r) a b → AtEnd (KnownAll have root r) a b → Always (Replaces (ref_path root r) (ref_bytes commit)) b c → Always (Exports have root r commit) a c
  exports_last told told' so_far known writes = goes_on told' (goes_known (exports_all told so_far) known) writes (λ u v w tree f q s. exports_ref outer tree q.1.known s) (λ u v w tree f q s e. exports_ref outer tree q.1.known s)

  pub exported_at : (commit : List ℕ) {a b c : Option Moments} → first_fault have commit ≡ None → IsTold b → IsTold c → AtEnd (KnownAll have root r) a b → Always (Replaces (ref_path root r) (ref_bytes commit)) b c → AtEnd (WasReplaced (ref_path root r) (ref_bytes commit)) b c
      → AtEnd (WasExported have root r commit) a c
  exported_at commit clean told told' known writes was = ends_on (to_tree told' (ends_both (ends_goes told writes) was)) known told (λ u v w tree q s. was_exported commit outer clean tree s.0 q s.1.0 s.1.1)

-- ---- after a sync

went : {u w : View} {result : Result (Unit {0}) HostError} → Step syncs result u w → (w ≡ u) ⊎ (w ≡ done syncs u)
went step = elim (called step).went [ inl same ↦ inl same | inr did ↦ elim did.1 [ inl same ↦ inl same | inr is ↦ inr is ] ]

furnishes_none : {have : Have} {root : Elements} {r : Ref} {v : View} → Furnishes have root r v v
furnishes_none = record { keeps = keeps_refl; files = files_stay }

furnishes_started : {have : Have} {root : Elements} {r : Ref} {u w : View} {result : Result (Unit {0}) HostError} → Step syncs result u w → FurnishesSynced have root r u w
furnishes_started {have = have} {root = root} {r = r} {u = u} step = elim (went step) [ inl same ↦ inl same | inr is ↦ inr (subst (Furnishes have root r (done syncs u)) (sym is) furnishes_none) ]

started : {have : Have} {root : Elements} {r : Ref} {commit : List ℕ} {u w : View} {result : Result (Unit {0}) HostError} → Step syncs result u w → ExportsSynced have root r commit u w
started {have = have} {root = root} {r = r} {commit = commit} {u = u} step = elim (went step) [ inl same ↦ inl same | inr is ↦ inr (subst (Exports have root r commit (done syncs u)) (sym is) (exports_furnished furnishes_none)) ]

-- what is there after a sync was there before
fit_before : {have : Have} {root : Elements} {u : View} → AreFit have root u → AreFit have root (done syncs u)
fit_before fit = record { each = fit.each }

work_before : {u : View} {q : Elements} → IsWork u q → IsWork (done syncs u) q
work_before work = record { place = work.place; staging = record { number = work.staging.number; is = work.staging.is; free = work.staging.free; first = work.staging.first }; within = work.within }

can_before : {root : Elements} {r : Ref} {u : View} → CanExport root r u → CanExport root r (done syncs u)
can_before can = record { config = can.config; ref = can.ref; folders = can.folders }

exported_since : {have : Have} {root : Elements} {r : Ref} {commit : List ℕ} {u w : View} → WasExported have root r commit (done syncs u) w → WasExported have root r commit u w
exported_since was = record {
  settled = was.settled;
  offered = λ fit. was.offered (fit_before fit);
  remotes = λ can. was.remotes (can_before can);
  work = λ q work. was.work q (work_before work);
  shares = record { each = was.shares.each };
}

pub sync_exports : {have : Have} {root : Elements} {r : Ref} {commit : List ℕ} {a b : Option Moments} {result : Result (Unit {0}) HostError} → IsTold a → Makes (Step syncs result) a b → Always (ExportsSynced have root r commit) a b
sync_exports told call = begins told (makes_goes call) (λ u w tree step. started step) (λ u w tree step again. started step)

pub sync_furnishes : {have : Have} {root : Elements} {r : Ref} {a b : Option Moments} {result : Result (Unit {0}) HostError} → IsTold a → Makes (Step syncs result) a b → AtEnd (FurnishesSynced have root r) a b
sync_furnishes told call = ends_to (ends_call told call) (λ u w step. furnishes_started step)

pub synced_exports : {have : Have} {root : Elements} {r : Ref} {commit : List ℕ} {a b c : Option Moments} → IsTold a → IsTold b → Makes (Step syncs (Ok tt)) a b → Always (Exports have root r commit) b c → Always (ExportsSynced have root r commit) a c
synced_exports {have = have} {root = root} {r = r} {commit = commit} told told' call exports =
    goes_on told' (begins told (makes_goes call) (λ u w tree step. started step) (λ u w tree step again. again.how.1)) exports (λ u v w tree s is e. inr (since u v w is e)) (λ u v w tree s is e last. inr (since u v w is e))
  where
    since : (u v w : View) → v ≡ done syncs u → Exports have root r commit v w → Exports have root r commit (done syncs u) w
    since u v w is e = subst (λ (x : View). Exports have root r commit x w) is e

pub synced_furnishes : {have : Have} {root : Elements} {r : Ref} {a b c : Option Moments} → IsTold a → IsTold b → Makes (Step syncs (Ok tt)) a b → AtEnd (Furnishes have root r) b c → AtEnd (FurnishesSynced have root r) a c
synced_furnishes {have = have} {root = root} {r = r} told told' call furnishes = ends_on furnishes (ends_call told call) told' (λ u v w tree step s. inr (subst (λ (x : View). Furnishes have root r x w) step.how.1 s))

pub synced_exported : {have : Have} {root : Elements} {r : Ref} {commit : List ℕ} {a b c : Option Moments} → IsTold a → IsTold b → Makes (Step syncs (Ok tt)) a b → AtEnd (WasExported have root r commit) b c → AtEnd (WasExported have root r commit) a c
synced_exported {have = have} {root = root} {r = r} {commit = commit} told told' call was = ends_on was (ends_call told call) told' (λ u v w tree step s. exported_since (subst (λ (x : View). WasExported have root r commit x w) step.how.1 s))

pub can_after : {root : Elements} {r : Ref} {objects : List BuiltObject} {u v : View} → Step syncs (Ok tt) u v → CanExportAll root r objects u → CanExportAll root r objects v
can_after {root = root} {r = r} {objects = objects} step can = subst (CanExportAll root r objects) (sym step.how.1) (record { keepable = can.keepable; can = can_before can.can })

pub can_objects : {root : Elements} {r : Ref} {objects : List BuiltObject} {u v : View} → v ≡ u → CanExportAll root r objects u → CanStoreAll root objects v
can_objects {root = root} {objects = objects} same can = subst (CanStoreAll root objects) (sym same) (record { keepable = can.keepable; folders = λ q above. can.can.folders q (inl above) })

pub can_write_config : {have : Have} {root : Elements} {r : Ref} {objects : List BuiltObject} {u v : View} → IsNoWork root → IsTree v → Known have root r u v → CanExportAll root r objects u → CanReplace (config_path root) v
can_write_config outer tree k can = can_config (apart_of outer k.staging) k.staging k.furnishes k.gone tree can.can

pub can_make_remotes : {have : Have} {root : Elements} {r : Ref} {objects : List BuiltObject} {u v : View} → IsNoWork root → IsTree v → Known have root r u v → CanExportAll root r objects u → v.names (remotes root) ≡ absent → AreFree (ancestors (a_remote root)) v
can_make_remotes outer tree k can none = can_remotes (apart_of outer k.staging) k.staging k.furnishes k.gone tree can.can none

pub can_write_ref : {have : Have} {root : Elements} {r : Ref} {objects : List BuiltObject} {u v : View} → IsNoWork root → IsTree v → Known have root r u v → CanExportAll root r objects u → CanWrite root (Head r) v
can_write_ref outer tree k can = can_write (apart_of outer k.staging) k.staging k.furnishes k.gone tree can.can
