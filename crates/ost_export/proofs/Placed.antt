-- Staged objects that come to their names.
use Rattle.std.proofs.Common.{◌≡◌, ◌≢◌, inl, inr, List, [], ◌∷◌, ◌++◌, true, Option, refl, sym, ◌∙◌, ap, subst, Contains}
use Rattle.fp_host.specs.Paths.{Elements, Slot, absent}
use Rattle.fp_host.specs.View.{View, IsTree}
use Rattle.fp_host.specs.Moments.{Moments, Always}
use Rattle.fp_host.specs.Frame.{AtEnd}
use Rattle.fp_host.proofs.Framed.{IsTold, keeps_refl, keeps_on, keeps_to}
use Rattle.fp_host.proofs.Goes.{goes_on}
use Rattle.fp_host.proofs.Ending.{ends_on, ends_both, ends_goes, goes_known, from_tree, to_tree}
use Rattle.fp_host.proofs.Above.{above_on}
use Rattle.fp_small.specs.Clear.{IsWithin}
use Rattle.fp_small.specs.Unsynced.{MakesNoFile}
use Rattle.fp_small.proofs.Making.{free_at}
use Rattle.fp_name.specs.Hex.{is_digest}
use Rattle.ost_model.specs.Objects.{Have, object_path, object_at}
use Rattle.ost_model.specs.Order.{In, IsOnce}
use Rattle.ost_model.proofs.Stores.{one_name}
use Rattle.ost_store.specs.Place.{Places, WasPlaced, CanPlace}
use Rattle.ost_store.specs.Stays.{Stays}
use Rattle.ost_store.proofs.Staying.{placed_stays, placed_there, shown_stays, ready_stays, off_object as not_in_itself, stays_on, stays_same}
use Rattle.ost_store.proofs.ObjectPaths.{below_work, not_both, above_object}
use Rattle.ost_store.specs.ObjectNames.{AreOpen}
use Rattle.ost_export.specs.Staging.{Named, IsApart}
use Rattle.ost_export.specs.Placing.{Puts, PutsReady, IsReadyIn, AreReady, AreLacking, CanPlaceAll, CameTo, PlacesAll, PlacesSome}
use Rattle.ost_export.proofs.Given.{given}
use Rattle.ost_export.proofs.Paths.{off_object}
use Rattle.ost_model.proofs.Once.{in_push, once_front}
use Rattle.ost_model.proofs.Members.{in_last, in_cases}

-- ---- one object

pub puts_refl : {have : Have} {root t : Elements} {objects : List Named} {v : View} → Puts have root t objects v v
puts_refl = record { keeps = keeps_refl }

pub puts_on : {have : Have} {root t : Elements} {objects : List Named} {u v w : View} → Puts have root t objects u v → Puts have root t objects v w → Puts have root t objects u w
puts_on first second = record { keeps = keeps_on first.keeps second.keeps }

module _ (root t : Elements) (apart : IsApart root t) (o : Named) (good : is_digest o.0 ≡ true) {v w : View} (places : Places (object_path t o.0 o.1) (object_path root o.0 o.1) v w) where
  pub placed_puts : {have : Have} {objects : List Named} → IsTree v → In objects o → IsReadyIn have t o v → Puts have root t objects v w
  placed_puts tree among ready =
      let p = object_path root o.0 o.1 in
      let from = object_path t o.0 o.1 in
      record {
        keeps = keeps_to
            (λ q spot h. elim h [
              | inl g ↦ inr (inl (record { name = o; object = ready.object; among = among; digits = good; is = ready.is; at = g.0; there = given o.0 o.1 ready.object from tree ready.ready ready.shown p q spot g }))
              | inr other ↦ elim other [
                | inl away ↦ inl (below_work t o.0 o.1 q away.0, away.1)
                | inr made ↦ inr (inr (above_object root o.0 o.1 q good made.0, made.1))
              ]
            ])
            (λ q e h. elim h [
              | inl here ↦ inr (inl (record { name = o; among = among; digits = good; at = here.0 }))
              | inr other ↦ elim other [
                | inl away ↦ inl (below_work t o.0 o.1 q away.0, away.1)
                | inr made ↦ inr (inr (above_object root o.0 o.1 q good made.0, made.1))
              ]
            ])
            (λ q none. none)
            (λ q id none h. none)
            places.keeps;
      }

  off_work : (p : Named) → object_path root p.0 p.1 ≢ object_path t o.0 o.1
  off_work p same = off_object apart p.0 p.1 (below_work t o.0 o.1 (object_path root p.0 p.1) same)

  -- other objects of the store stay
  other_stays : (p : Named) → is_digest p.0 ≡ true → (p ≡ o → ⊥) → Stays (object_path root p.0 p.1) v w
  other_stays p digits off = placed_stays (object_path root p.0 p.1) (object_path t o.0 o.1) (object_path root o.0 o.1) v w places
      (not_in_itself root o.0 p.0 o.1 p.1 good digits (λ same. off (λ i. (same.0 i, same.1 i)))) (off_work p)

  -- and so do the others in the work folder
  work_stays : (p : Named) → is_digest p.0 ≡ true → (p ≡ o → ⊥) → Stays (object_path t p.0 p.1) v w
  work_stays p digits off = placed_stays (object_path t p.0 p.1) (object_path t o.0 o.1) (object_path root o.0 o.1) v w places
      (λ within. off_object apart o.0 o.1 (deeper within))
      (λ same. let one = one_name t p.0 o.0 p.1 o.1 digits good same in off (λ i. (one.0 i, one.1 i)))
    where
      deeper : IsWithin (object_path t p.0 p.1) (object_path root o.0 o.1) → IsWithin t (object_path root o.0 o.1)
      deeper (inl is) = below_work t p.0 p.1 (object_path root o.0 o.1) is
      deeper (inr above) = inr (above_on t (object_path t p.0 p.1) (object_path root o.0 o.1) (inr (inr (inl refl))) above)

-- ---- one object more

module _ {have : Have} (root t : Elements) (apart : IsApart root t) (objects left : List Named) (o : Named) {u v : View} (ready : AreReady have t objects u) (some : PlacesSome root t objects (left ++ o ∷ []) u v) (now : AreReady have t (left ++ o ∷ []) v) where
  here : IsReadyIn have t o v
  here = now.each o (in_last left o)

  once : IsOnce left × (In left o → ⊥)
  once = once_front left o now.once

  not_this : (p : Named) → In left p → p ≡ o → ⊥
  not_this p has same = once.1 (subst (In left) same has)

  pub placed_more : {w : View} → IsTree u → IsTree v → IsTree w → Places (object_path t o.0 o.1) (object_path root o.0 o.1) v w → WasPlaced (object_path t o.0 o.1) (object_path root o.0 o.1) v w → MakesNoFile v w
      → PlacesSome root t objects left u w × AreReady have t left w
  placed_more {w = w} tree_u tree_v tree_w places was none = (
    record {
      among = λ p has. some.among p (in_push left o p has);
      came = λ p has. elim (some.came p has) [
        | inl waits ↦ elim (in_cases left o p waits) [
          | inl still ↦ inl still
          | inr is ↦ inr (
            λ again. once.1 (subst (In left) (sym is) again),
            subst (CameTo root t u w) is (record {
              shown = placed_there (object_path t o.0 o.1) (object_path root o.0 o.1) v w places was tree_v tree_w ∙ shown_stays (object_path t o.0 o.1) u v (some.still o (in_last left o)).0 tree_u tree_v;
              stood = subst (λ (e : Slot). Contains w.stood (object_path root o.0 o.1, e)) (some.still o (in_last left o)).0.name was.stood;
            }),
          )
        ]
        | inr before ↦ inr (
          λ again. before.0 (in_push left o p again),
          record {
            shown = shown_stays (object_path root p.0 p.1) v w (other_stays root t apart o here.digits places p (ready.each p has).digits (λ same. before.0 (subst (In (left ++ o ∷ [])) (sym same) (in_last left o)))) tree_v tree_w ∙ before.1.shown;
            stood = places.keeps.stood (object_path root p.0 p.1, u.names (object_path t p.0 p.1)) before.1.stood;
          },
        )
      ];
      still = λ p has.
          let digits = (now.each p (in_push left o p has)).digits in
          let before = some.still p (in_push left o p has) in
          (stays_on before.0 (work_stays root t apart o here.digits places p digits (not_this p has)), stays_on before.1 (other_stays root t apart o here.digits places p digits (not_this p has)));
      others = λ d kind digits off. stays_on (some.others d kind digits off)
          (other_stays root t apart o here.digits places (d, kind) digits (λ same. off (subst (In objects) (sym same) (some.among o (in_last left o)))));
    },
    record {
      each = λ p has.
          let before = now.each p (in_push left o p has) in
          let stays = work_stays root t apart o here.digits places p before.digits (not_this p has) in
          record {
            object = before.object;
            digits = before.digits;
            is = before.is;
            ready = ready_stays (object_path t p.0 p.1) v w stays tree_v tree_w p.0 p.1 none.unsynced before.ready;
            shown = ap (object_at p.1) (shown_stays (object_path t p.0 p.1) v w stays tree_v tree_w) ∙ before.shown;
          };
      once = once.0;
    },
  )

  pub lacking_here : AreLacking root objects u → v.names (object_path root o.0 o.1) ≡ absent
  lacking_here lacking = (some.still o (in_last left o)).1.name ∙ lacking.free o (some.among o (in_last left o))

pub none_placed : {have : Have} {root t : Elements} {objects : List Named} {u w : View} → w ≡ u → AreReady have t objects u → PlacesSome root t objects objects u w × AreReady have t objects w
none_placed {have = have} {root = root} {t = t} {objects = objects} {u = u} {w = w} same ready = (
  subst (PlacesSome root t objects objects u) (sym same) (record {
    among = λ o has. has;
    came = λ o has. inl has;
    still = λ o has. (stays_same, stays_same);
    others = λ d kind digits off. stays_same;
  }),
  subst (AreReady have t objects) (sym same) ready,
)

pub all_placed : {root t : Elements} {objects : List Named} {u w : View} → PlacesSome root t objects [] u w → PlacesAll root t objects u w
all_placed some = record { came = λ o has. elim (some.came o has) [ inl none ↦ absurd none | inr came ↦ came.1 ]; others = some.others }

-- ---- over the moments

-- what is known between two objects
abbrev pub Between : Have → Elements → Elements → List Named → List Named → View → View → Type 0
Between have root t objects left u w = AreReady have t objects u → PlacesSome root t objects left u w × AreReady have t left w

-- folders above the objects' names stay free
puts_open : {have : Have} {root t : Elements} {objects : List Named} (apart : IsApart root t) {u w : View} → Puts have root t objects u w → AreOpen root u → AreOpen root w
puts_open {root = root} apart {u = u} {w = w} puts before = record {
  free = λ q above. elim (puts.keeps.names q) [
    | inl same ↦ free_at u w q same (before.free q above)
    | inr put ↦ elim put [
      | inl away ↦ inl away.1
      | inr other ↦ elim other [
        | inl new ↦ absurd (not_both root q (record { digest = new.name.0; kind = new.name.1; digits = new.digits; at = new.at }) above)
        | inr made ↦ inr made.1
      ]
    ]
  ];
}

module _ {have : Have} {root t : Elements} (apart : IsApart root t) (objects left : List Named) (o : Named) {a b : Option Moments} (told : IsTold b) (so_far : Always (PutsReady have root t objects) a b) (known : AtEnd (Between have root t objects (left ++ o ∷ [])) a b) where
  pub puts_next : {c : Option Moments} → Always (Places (object_path t o.0 o.1) (object_path root o.0 o.1)) b c → Always (PutsReady have root t objects) a c
  puts_next places = goes_on told (goes_known so_far known) places (λ u v w tree r q s. step u v w tree r q.1 s) (λ u v w tree r q s e. step u v w tree r q.1 s)
    where
      step : (u v w : View) → IsTree v → PutsReady have root t objects u v → Between have root t objects (left ++ o ∷ []) u v → Places (object_path t o.0 o.1) (object_path root o.0 o.1) v w → PutsReady have root t objects u w
      step u v w tree r q s ready =
          let k = q ready in
          let h = k.1.each o (in_last left o) in
          puts_on (r ready) (placed_puts root t apart o h.digits s tree (k.0.among o (in_last left o)) h)

  pub between_next : {c : Option Moments} → IsTold a → IsTold c → Always (Places (object_path t o.0 o.1) (object_path root o.0 o.1)) b c → AtEnd (WasPlaced (object_path t o.0 o.1) (object_path root o.0 o.1)) b c → AtEnd MakesNoFile b c
      → AtEnd (Between have root t objects left) a c
  between_next told_a told_c places was none =
      ends_on (to_tree told_c (ends_both (ends_both (ends_goes told places) was) none)) (from_tree told_a known) told
      (λ u v w tree q s ready. let k = q.1 ready in placed_more root t apart objects left o ready k.0 k.1 q.0 tree s.0 s.1.0.0 s.1.0.1 s.1.1)

  -- the object may be placed
  pub can_place_next : {u v : View} → PutsReady have root t objects u v → Between have root t objects (left ++ o ∷ []) u v → CanPlaceAll have root t objects u → CanPlace root (object_path t o.0 o.1) o.0 o.1 v
  can_place_next puts between can =
      let k = between can.ready in
      let h = k.1.each o (in_last left o) in
      record {
        ready = h.ready;
        free = lacking_here root t apart objects left o can.ready k.0 k.1 can.lacking;
        folders = record { free = λ q has. (puts_open apart (puts can.ready) can.open_above).free q (above_object root o.0 o.1 q h.digits has) };
      }
