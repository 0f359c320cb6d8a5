-- Staged objects come to their names between two syncs.
use Rattle.std.proofs.Common.{inl, inr, ℕ, List, Option, Result, sym, ◌∙◌, ap, subst, Contains}
use Rattle.fp_host.specs.Paths.{Elements, Slot, IsAbove}
use Rattle.fp_host.specs.View.{View, IsTree}
use Rattle.fp_host.specs.Calls.{syncs, Step}
use Rattle.fp_host.specs.Moments.{Moments, Always, Makes}
use Rattle.fp_host.specs.Frame.{Keeps, Frame, AtEnd, NoPath}
use Rattle.fp_host.specs.declared.host.HostError.{HostError}
use Rattle.fp_host.proofs.Follow.{called}
use Rattle.fp_host.proofs.Framed.{IsTold, keeps_to, keeps_call}
use Rattle.fp_host.proofs.Goes.{begins, goes_on, makes_goes}
use Rattle.fp_host.proofs.Ending.{ends_call, ends_on, ends_both, ends_frame, from_tree, to_tree}
use Rattle.fp_small.specs.Clear.{GoneWithin, AbsentWithin, IsCleared, CanClear}
use Rattle.fp_small.proofs.Keeping.{files_kept}
use Rattle.fp_small.proofs.Staging.{synced}
use Rattle.fp_small.proofs.Making.{free_at}
use Rattle.fp_base.specs.declared.object.ObjKind.{ObjKind}
use Rattle.ost_model.specs.Objects.{Have, object_path}
use Rattle.ost_store.specs.Stays.{Stays}
use Rattle.ost_store.proofs.Staying.{shown_stays, held_stays, stays_on, Synced, synced_stays}
use Rattle.ost_store.proofs.Ready.{staged_ready}
use Rattle.ost_store.proofs.Holding.{held_object}
use Rattle.ost_export.specs.Staging.{Named, IsApart, AreStaged}
use Rattle.ost_export.specs.Placing.{Puts, PutsReady, PutsStaged, AreReady, CanPlaceAll, PlacesAll, WasStored, CanStore}
use Rattle.ost_export.proofs.Paths.{off_object, off_above}
use Rattle.ost_export.proofs.Placed.{puts_on}

-- ---- a sync

module _ {have : Have} {t : Elements} (objects : List Named) {v w : View} (step : Synced v w) where
  -- what is staged is ready
  pub staged_are_ready : IsTree w → AreStaged have t objects v → AreReady have t objects w
  staged_are_ready tree staged = record {
    each = λ o has.
        let k = staged.each o has in
        let p = object_path t o.0 o.1 in
        record {
          object = k.object;
          digits = k.digits;
          is = k.is;
          ready = staged_ready p k.object o.0 o.1 v w k.held step.how.1 tree k.named;
          shown = held_object o.0 o.1 p k.object w tree (held_stays p v w (synced_stays p step) k.object k.held) k.named;
        };
    once = staged.once;
  }

  pub can_place : {root : Elements} → IsTree w → CanStore have root t objects v → CanPlaceAll have root t objects w
  can_place {root = root} tree can = record {
    ready = staged_are_ready tree can.staged;
    lacking = record { free = λ o has. ap (λ (x : View). x.names (object_path root o.0 o.1)) step.how.1 ∙ can.lacking.free o has };
    open_above = record { free = λ q above. free_at v w q (ap (λ (x : View). x.names q) step.how.1) (can.store_open.free q above) };
  }

-- ---- at every moment

synced_puts : {have : Have} {root t : Elements} {objects : List Named} {r : Result (Unit {0}) HostError} {u w : View} → IsTree u → Step syncs r u w → Puts have root t objects u w
synced_puts tree step = record { keeps = keeps_call tree (λ q spot h. absurd h) (λ q e h. absurd h) (λ x i h. absurd h) tt tt (called step) }

cleared_puts : {have : Have} {root t : Elements} {objects : List Named} {u w : View} → Keeps (GoneWithin t) (AbsentWithin t) NoPath u w → Puts have root t objects u w
cleared_puts keeps = record { keeps = keeps_to (λ q spot h. inl h) (λ q e h. inl h) (λ q none. none) (λ q id none h. none) keeps }

cleared_stays : {root t : Elements} (apart : IsApart root t) (d : List ℕ) (kind : ObjKind) {v w : View} → Keeps (GoneWithin t) (AbsentWithin t) NoPath v w → Stays (object_path root d kind) v w
cleared_stays {root = root} apart d kind keeps = record {
  name = elim (keeps.names (object_path root d kind)) [ inl same ↦ same | inr away ↦ absurd (off_object apart d kind away.0) ];
  row = λ id f is some. (files_kept keeps).rows id f some;
}

module _ {root t : Elements} (apart : IsApart root t) (have : Have) (objects : List Named) where
  abbrev Kept : View → View → Type 0
  Kept = PutsStaged have root t objects

  pub stores_sync : {a b : Option Moments} {r : Result (Unit {0}) HostError} → IsTold a → Makes (Step syncs r) a b → Always Kept a b
  stores_sync told call = begins told (makes_goes call) (λ u w tree step staged. synced_puts tree step) (λ u w tree step again staged. synced_puts tree step)

  -- the sync, and the objects after it
  pub stores_place : {a b c : Option Moments} → IsTold a → IsTold b → Makes Synced a b → Always (PutsReady have root t objects) b c → Always Kept a c
  stores_place told told' call places =
      goes_on told' (begins told (makes_goes call) (λ u w tree step staged. synced_puts tree step) (λ u w tree step again. (tree, step))) places
      (λ u v w tree r q s. place u v w tree r q s) (λ u v w tree r q s e. place u v w tree r q s)
    where
      place : (u v w : View) → IsTree v → Kept u v → IsTree u × Synced u v → PutsReady have root t objects v w → Kept u w
      place u v w tree r q s staged = puts_on (r staged) (s (staged_are_ready objects q.1 tree staged))

  -- the clearing of the folder after it
  pub stores_clear : {a b c : Option Moments} → IsTold b → Always Kept a b → Frame (GoneWithin t) (AbsentWithin t) NoPath b c → Always Kept a c
  stores_clear told so_far frame = goes_on told so_far frame.goes (λ u v w tree r q s staged. puts_on (r staged) (cleared_puts s)) (λ u v w tree r q s e staged. puts_on (r staged) (cleared_puts s))

  pub stores_again : {a b c : Option Moments} {r : Result (Unit {0}) HostError} → IsTold b → Always Kept a b → Makes (Step syncs r) b c → Always Kept a c
  stores_again told so_far call = goes_on told so_far (makes_goes call) (λ u v w tree r q s staged. puts_on (r staged) (synced_puts tree s)) (λ u v w tree r q s e staged. puts_on (r staged) (synced_puts tree s))

  -- ---- at the end

  abbrev pub CameAll : View → View → Type 0
  CameAll u w = AreStaged have t objects u → PlacesAll root t objects u w

  -- and the folder is gone
  abbrev pub CameCleared : View → View → Type 0
  CameCleared u w = AreStaged have t objects u → PlacesAll root t objects u w × IsCleared t w

  pub placed_at : {a b c : Option Moments} → IsTold a → IsTold b → IsTold c → Makes Synced a b → AtEnd (λ v w. AreReady have t objects v → PlacesAll root t objects v w) b c → AtEnd CameAll a c
  placed_at told told' told'' call places =
      ends_on (to_tree told'' places) (from_tree told (ends_call told call)) told' (λ u v w tree q s staged. step u v w q.0 tree s.0 q.1 (s.1 (staged_are_ready objects q.1 tree staged)))
    where
      step : (u v w : View) → IsTree u → IsTree v → IsTree w → Synced u v → PlacesAll root t objects v w → PlacesAll root t objects u w
      step u v w tree tree' tree'' synced places = record {
        came = λ o has. record {
          shown = (places.came o has).shown ∙ shown_stays (object_path t o.0 o.1) u v (synced_stays (object_path t o.0 o.1) synced) tree tree';
          stood = subst (λ (e : Slot). Contains w.stood (object_path root o.0 o.1, e)) (synced_stays (object_path t o.0 o.1) synced).name (places.came o has).stood;
        };
        others = λ d kind digits off. stays_on (synced_stays (object_path root d kind) synced) (places.others d kind digits off);
      }

  -- and so it stays where the store's names stay
  places_stay : {u v w : View} → IsTree v → IsTree w → ((d : List ℕ) (kind : ObjKind) → Stays (object_path root d kind) v w) → ((x : Elements × Slot) → Contains v.stood x → Contains w.stood x) → PlacesAll root t objects u v → PlacesAll root t objects u w
  places_stay {u = u} {v = v} {w = w} tree tree' same stood places = record {
    came = λ o has. record {
      shown = shown_stays (object_path root o.0 o.1) v w (same o.0 o.1) tree tree' ∙ (places.came o has).shown;
      stood = stood (object_path root o.0 o.1, u.names (object_path t o.0 o.1)) (places.came o has).stood;
    };
    others = λ d kind digits off. stays_on (places.others d kind digits off) (same d kind);
  }

  pub cleared_at : {a b c : Option Moments} → IsTold b → IsTold c → AtEnd CameAll a b → Frame (GoneWithin t) (AbsentWithin t) NoPath b c → AtEnd (λ v w. IsCleared t w) b c → AtEnd CameCleared a c
  cleared_at told told' placed frame cleared = ends_on (to_tree told' (ends_both (ends_frame told frame) cleared)) placed told (λ u v w tree q s staged. (
    places_stay tree s.0 (λ d kind. cleared_stays apart d kind s.1.0) s.1.0.stood (q staged),
    s.1.1,
  ))

  pub stored_at : {a b c : Option Moments} → IsTold b → IsTold c → AtEnd CameCleared a b → Makes Synced b c → AtEnd (λ u w. AreStaged have t objects u → WasStored root t objects u w) a c
  stored_at told told' placed call = ends_on (to_tree told' (ends_call told call)) placed told (λ u v w tree q s staged. record {
    places = places_stay tree s.0 (λ d kind. synced_stays (object_path root d kind) s.1) (λ x had. subst (λ (y : View). Contains y.stood x) (sym s.1.how.1) had) (q staged).0;
    cleared = record { gone = λ p within. ap (λ (y : View). y.names p) s.1.how.1 ∙ (q staged).1.gone p within };
    settled = synced s.1;
  })

  -- ---- what the folder's clearing asks for

  pub clears_still : {u v : View} → Kept u v → CanStore have root t objects u → CanClear t v
  clears_still {v = v} kept can =
      let puts = kept can.staged in
      record {
        no_root = can.clears.no_root;
        below = record {
          short = λ q below. elim (puts.keeps.names q) [
            | inl same ↦ elim (can.clears.below.short q below) [ inl none ↦ inl (same ∙ none) | inr short ↦ inr short ]
            | inr put ↦ elim put [
              | inl away ↦ inl away.1
              | inr other ↦ elim other [
                | inl new ↦ absurd (off_object apart new.name.0 new.name.1 (inr (subst (IsAbove t) new.at below)))
                | inr made ↦ absurd (off_above apart q made.0 (inr below))
              ]
            ]
          ];
        };
      }
