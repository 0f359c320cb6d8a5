-- Objects that are kept come to their names between two syncs.
use Rattle.std.proofs.Common.{inl, inr, ℕ, List, Option, Result, sym, ◌∙◌, ap, subst, Contains}
use Rattle.fp_host.specs.Paths.{Elements, Slot, file}
use Rattle.fp_host.specs.View.{View, IsTree}
use Rattle.fp_host.specs.Calls.{syncs, Step}
use Rattle.fp_host.specs.Moments.{Moments, Always, Makes}
use Rattle.fp_host.specs.Remote.{Holdings}
use Rattle.fp_host.specs.Frame.{Frame, AtEnd, NoPath}
use Rattle.fp_host.specs.declared.host.HostError.{HostError}
use Rattle.fp_host.proofs.Framed.{IsTold}
use Rattle.fp_host.proofs.Goes.{begins, goes_on, makes_goes}
use Rattle.fp_host.proofs.Ending.{ends_call, ends_on, ends_both, ends_frame, from_tree, to_tree}
use Rattle.fp_small.specs.Clear.{GoneWithin, AbsentWithin, IsCleared, CanClear}
use Rattle.fp_small.specs.Files.{KeepsFiles, SameFiles}
use Rattle.fp_small.specs.Shares.{Shares}
use Rattle.fp_small.proofs.Keeping.{files_kept, files_on, files_synced}
use Rattle.fp_small.proofs.Sharing.{shares_same, shares_empty, shares_on}
use Rattle.fp_small.proofs.Staging.{synced}
use Rattle.fp_small.proofs.Making.{free_at}
use Rattle.fp_base.specs.declared.object.ObjKind.{ObjKind}
use Rattle.ost_model.specs.Objects.{object_path}
use Rattle.ost_store.specs.Place.{LeavesStore}
use Rattle.ost_store.specs.Stays.{Stays}
use Rattle.ost_store.proofs.Staying.{shown_stays, stays_on, Synced, synced_stays}
use Rattle.ost_store.proofs.Ready.{staged_ready}
use Rattle.ost_store.proofs.ObjectPaths.{object_within}
use Rattle.ost_pull.specs.Pulls.{IsApart}
use Rattle.ost_pull.specs.Placing.{AreReady, AreLacking, CanPlaceAll, PlacesAll, PullsReady, PullsKept, WasStored, CanStore}
use Rattle.ost_pull.specs.Takes.{AreTaken}
use Rattle.ost_store.specs.ObjectNames.{AreOpen}
use Rattle.ost_pull.specs.Work.{Works}
use Rattle.ost_pull.proofs.Apart.{lacking_name, works_stays}
use Rattle.ost_pull.proofs.Kept.{Named, synced_works, cleared_works}
use Rattle.ost_pull.proofs.Pulled.{pulls_on, pulls_work, pulls_clears}

-- ---- a sync

files_of : {v w : View} → SameFiles v w → KeepsFiles v w
files_of same = record { rows = λ id f some. same.rows id ∙ some; stood = same.stood }

-- no file was put anywhere
abbrev PutsBack : View → View → Type 0
PutsBack v w = (q : Elements) (id : ℕ) → Contains w.stood (q, file id) → Contains v.stood (q, file id)

synced_back : {v w : View} → Synced v w → PutsBack v w
synced_back step q id had = subst (λ (x : View). Contains x.stood (q, file id)) step.how.1 had

synced_open : {root : Elements} {v w : View} → Synced v w → AreOpen root v → AreOpen root w
synced_open {v = v} {w = w} step before = record { free = λ q above. free_at v w q (ap (λ (x : View). x.names q) step.how.1) (before.free q above) }

module _ {root t : Elements} {url : List ℕ} {holds : Option Holdings} (objects : List Named) {v w : View} (step : Synced v w) where
  -- what is kept is ready
  pub kept_ready : IsTree w → AreTaken root t url holds objects v → AreReady t objects w
  kept_ready tree taken = record {
    each = λ o has.
        let k = taken.are.each o has in
        record { digits = k.digits; ready = staged_ready (object_path t o.0 o.1) k.object o.0 o.1 v w k.held step.how.1 tree k.named };
    once = taken.are.once;
  }

  -- and nothing stands at its name
  pub kept_lacking : IsTree v → LeavesStore root v → AreTaken root t url holds objects v → AreLacking root objects w
  kept_lacking tree true_names taken = record {
    free = λ o has. ap (λ (x : View). x.names (object_path root o.0 o.1)) step.how.1 ∙ lacking_name root o.0 o.1 v tree true_names (taken.are.each o has).digits (taken.new o has);
  }

  pub can_place : IsTree v → IsTree w → CanStore root t url holds objects v → CanPlaceAll root t objects w
  can_place tree tree' can = record { ready = kept_ready tree' can.taken; lacking = kept_lacking tree can.true_names can.taken; open_above = synced_open step can.store_open }

-- ---- at every moment

module _ {root t : Elements} (apart : IsApart root t) (url : List ℕ) (holds : Option Holdings) (objects : List Named) where
  abbrev Kept : View → View → Type 0
  Kept = PullsKept root t url holds objects

  pub stores_sync : {a b : Option Moments} {r : Result (Unit {0}) HostError} → IsTold a → Makes (Step syncs r) a b → Always Kept a b
  stores_sync told call = begins told (makes_goes call) (λ u w tree step taken true_names. pulls_work root t u w apart (synced_works tree step)) (λ u w tree step again taken true_names. pulls_work root t u w apart (synced_works tree step))

  -- the sync, and the objects after it
  pub stores_place : {a b c : Option Moments} → IsTold a → IsTold b → Makes Synced a b → Always (PullsReady root t objects) b c → Always Kept a c
  stores_place told told' call places =
      goes_on told' (begins told (makes_goes call) (λ u w tree step taken true_names. pulls_work root t u w apart (synced_works tree step)) (λ u w tree step again. (tree, step))) places
      (λ u v w tree r q s. place u v w tree r q s) (λ u v w tree r q s e. place u v w tree r q s)
    where
      place : (u v w : View) → IsTree v → Kept u v → IsTree u × Synced u v → PullsReady root t objects v w → Kept u w
      place u v w tree r q s taken true_names = pulls_on root t apart (r taken true_names) (s (kept_ready objects q.1 tree taken) (kept_lacking objects q.1 q.0 true_names taken))

  -- work in the folder after it
  pub stores_work : {a b c : Option Moments} → IsTold b → Always Kept a b → Always (Works t) b c → Always Kept a c
  stores_work told so_far works = goes_on told so_far works (λ u v w tree r q s taken true_names. pulls_on root t apart (r taken true_names) (pulls_work root t v w apart s))
      (λ u v w tree r q s e taken true_names. pulls_on root t apart (r taken true_names) (pulls_work root t v w apart s))

  -- ---- at the end

  -- what was ready came to its name
  abbrev pub CameAll : View → View → Type 0
  CameAll u w = AreTaken root t url holds objects u → PlacesAll root t objects u w

  -- and the folder is gone
  abbrev pub CameCleared : View → View → Type 0
  CameCleared u w = AreTaken root t url holds objects u → PlacesAll root t objects u w × IsCleared t w

  pub placed_at : {a b c : Option Moments} → IsTold a → IsTold b → IsTold c → Makes Synced a b → AtEnd (λ v w. AreReady t objects v → PlacesAll root t objects v w) b c → AtEnd CameAll a c
  placed_at told told' told'' call places =
      ends_on (to_tree told'' places) (from_tree told (ends_call told call)) told' (λ u v w tree q s taken. step u v w q.0 tree s.0 q.1 (s.1 (kept_ready objects q.1 tree taken)))
    where
      step : (u v w : View) → IsTree u → IsTree v → IsTree w → Synced u v → PlacesAll root t objects v w → PlacesAll root t objects u w
      step u v w tree tree' tree'' synced places = record {
        came = λ o has. places.came o has ∙ shown_stays (object_path t o.0 o.1) u v (synced_stays (object_path t o.0 o.1) synced) tree tree';
        put = λ o has. subst (λ (e : Slot). Contains w.stood (object_path root o.0 o.1, e)) (synced_stays (object_path t o.0 o.1) synced).name (places.put o has);
        only = λ q id below had. elim (places.only q id below had) [
          | inl before ↦ inl (synced_back synced q id before)
          | inr put ↦ inr (put.0, put.1, put.2, sym (synced_stays (object_path t put.0.0 put.0.1) synced).name ∙ put.3)
        ];
        files = files_on (files_of (files_synced synced)) places.files;
        empty = record { each = λ id f new some. places.empty.each id f ((files_synced synced).rows id ∙ new) some };
        others = λ d kind digits off. stays_on (synced_stays (object_path root d kind) synced) (places.others d kind digits off);
      }

  -- and so it stays where the store's names stay
  places_stay : {u v w : View} → IsTree v → IsTree w → ((d : List ℕ) (kind : ObjKind) → Stays (object_path root d kind) v w) → KeepsFiles v w → Shares NoPath v w → PutsBack v w → PlacesAll root t objects u v → PlacesAll root t objects u w
  places_stay {u = u} {v = v} {w = w} tree tree' same files empty back places = record {
    came = λ o has. shown_stays (object_path root o.0 o.1) v w (same o.0 o.1) tree tree' ∙ places.came o has;
    put = λ o has. files.stood (object_path root o.0 o.1, u.names (object_path t o.0 o.1)) (places.put o has);
    only = λ q id below had. places.only q id below (back q id had);
    files = files_on places.files files;
    empty = shares_on places.empty empty files;
    others = λ d kind digits off. stays_on (places.others d kind digits off) (same d kind);
  }

  pub cleared_at : {a b c : Option Moments} → IsTold b → IsTold c → AtEnd CameAll a b → Frame (GoneWithin t) (AbsentWithin t) NoPath b c → AtEnd (λ v w. IsCleared t w) b c → AtEnd CameCleared a c
  cleared_at told told' placed frame cleared = ends_on (to_tree told' (ends_both (ends_frame told frame) cleared)) placed told (λ u v w tree q s taken. (
    places_stay tree s.0 (λ d kind. works_stays root t apart (cleared_works s.1.0) (object_path root d kind) (object_within root d kind)) (files_kept s.1.0) (shares_empty s.1.0) (λ p id had. elim (s.1.0.puts (p, file id) had) [ inl before ↦ before | inr away ↦ absurd (cc away.1) ]) (q taken),
    s.1.1,
  ))

  pub stored_at : {a b c : Option Moments} → IsTold b → IsTold c → AtEnd CameCleared a b → Makes Synced b c → AtEnd (λ u w. AreTaken root t url holds objects u → WasStored root t objects u w) a c
  stored_at told told' placed call = ends_on (to_tree told' (ends_call told call)) placed told (λ u v w tree q s taken. record {
    places = places_stay tree s.0 (λ d kind. synced_stays (object_path root d kind) s.1) (files_of (files_synced s.1)) (shares_same (files_synced s.1)) (synced_back s.1) (q taken).0;
    cleared = record { gone = λ p within. ap (λ (y : View). y.names p) s.1.how.1 ∙ (q taken).1.gone p within };
    settled = synced s.1;
  })

  -- ---- what the folder's clearing asks for

  pub clears_still : {u v : View} → Kept u v → CanStore root t url holds objects u → CanClear t v
  clears_still pulls can = pulls_clears root t apart (pulls can.taken can.true_names) can.low can.clears
