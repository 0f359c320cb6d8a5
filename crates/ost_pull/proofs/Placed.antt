-- Objects that come from the work folder to their names.
use Rattle.std.proofs.Common.{◌≡◌, ◌≢◌, inl, inr, List, [], ◌∷◌, ◌++◌, true, Option, refl, sym, ◌∙◌, ap, subst, Contains}
use Rattle.fp_host.specs.Paths.{Elements, Slot, absent, file}
use Rattle.fp_host.specs.View.{View, IsTree}
use Rattle.fp_host.specs.Moments.{Moments, Always}
use Rattle.fp_host.specs.Frame.{AtEnd}
use Rattle.fp_host.proofs.Framed.{IsTold, keeps_to}
use Rattle.fp_host.proofs.Goes.{goes_on}
use Rattle.fp_host.proofs.Ending.{ends_on, ends_both, ends_goes, goes_known, from_tree, to_tree}
use Rattle.fp_host.proofs.Above.{above_on}
use Rattle.fp_small.specs.Clear.{IsWithin}
use Rattle.fp_small.specs.Unsynced.{MakesNoFile}
use Rattle.fp_small.proofs.Keeping.{files_kept, files_on, files_stay}
use Rattle.fp_small.proofs.Sharing.{shares_refl, shares_empty, shares_on}
use Rattle.fp_name.specs.Hex.{is_digest}
use Rattle.ost_model.specs.Objects.{object_path}
use Rattle.ost_model.specs.Order.{In, IsOnce}
use Rattle.ost_model.proofs.Stores.{one_name}
use Rattle.ost_store.specs.Place.{Places, WasPlaced, IsReadyAs, CanPlace}
use Rattle.ost_store.specs.Stays.{Stays}
use Rattle.ost_store.proofs.Staying.{placed_stays, placed_there, shown_stays, ready_stays, off_object as not_in_itself, stays_on, stays_same}
use Rattle.ost_store.proofs.ObjectPaths.{below_work, above_object}
use Rattle.ost_pull.proofs.Given.{named_given}
use Rattle.ost_pull.specs.Pulls.{IsApart, Pulls}
use Rattle.ost_pull.specs.Placing.{IsReadyIn, AreReady, AreLacking, CanPlaceAll, CameTo, WasPut, PlacesAll, PlacesSome, PullsReady}
use Rattle.ost_pull.proofs.Apart.{off_object}
use Rattle.ost_pull.proofs.Kept.{Named}
use Rattle.ost_model.proofs.Once.{in_push, once_front}
use Rattle.ost_model.proofs.Members.{in_last, in_cases}
use Rattle.ost_pull.proofs.Pulled.{pulls_on, pulls_open}

-- ---- one object

module _ (root t : Elements) (apart : IsApart root t) (o : Named) (good : is_digest o.0 ≡ true) {v w : View} (places : Places (object_path t o.0 o.1) (object_path root o.0 o.1) v w) where
  pub placed_pulls : IsReadyAs o.0 o.1 (object_path t o.0 o.1) v → v.names (object_path root o.0 o.1) ≡ absent → Pulls root t v w
  placed_pulls ready free =
      let p = object_path root o.0 o.1 in
      let from = object_path t o.0 o.1 in
      record {
        keeps = keeps_to
            (λ q spot h. elim h [
              | inl given ↦ inr (inl (record { digest = o.0; kind = o.1; digits = good; at = given.0; named = named_given o.0 o.1 from ready p q spot given; free = ap v.names given.0 ∙ free }))
              | inr other ↦ elim other [
                | inl away ↦ inl (inr (inr (below_work t o.0 o.1 q away.0, away.1)))
                | inr made ↦ inr (inr (above_object root o.0 o.1 q good made.0, made.1))
              ]
            ])
            (λ q e h. elim h [
              | inl here ↦ inr (inl (record { digest = o.0; kind = o.1; digits = good; at = here.0; free = ap v.names here.0 ∙ free }))
              | inr other ↦ elim other [
                | inl away ↦ inl (inr (inr (below_work t o.0 o.1 q away.0, away.1)))
                | inr made ↦ inr (inr (above_object root o.0 o.1 q good made.0, made.1))
              ]
            ])
            (λ q none. absurd none)
            (λ q id within h. elim h [
              | inl here ↦ absurd (off_object root t apart o.0 o.1 (subst (IsWithin t) here.0 within))
              | inr other ↦ elim other [ inl away ↦ absurd (cc away.1) | inr made ↦ absurd (cc made.1) ]
            ])
            places.keeps;
        files = files_kept places.keeps;
      }

  off_work : (p : Named) → object_path root p.0 p.1 ≢ object_path t o.0 o.1
  off_work p same = off_object root t apart p.0 p.1 (below_work t o.0 o.1 (object_path root p.0 p.1) same)

  -- other objects of the store stay
  pub other_stays : (p : Named) → is_digest p.0 ≡ true → (p ≡ o → ⊥) → Stays (object_path root p.0 p.1) v w
  other_stays p digits off = placed_stays (object_path root p.0 p.1) (object_path t o.0 o.1) (object_path root o.0 o.1) v w places
      (not_in_itself root o.0 p.0 o.1 p.1 good digits (λ same. off (λ i. (same.0 i, same.1 i)))) (off_work p)

  -- and so do the others in the work folder
  work_stays : (p : Named) → is_digest p.0 ≡ true → (p ≡ o → ⊥) → Stays (object_path t p.0 p.1) v w
  work_stays p digits off = placed_stays (object_path t p.0 p.1) (object_path t o.0 o.1) (object_path root o.0 o.1) v w places
      (λ within. off_object root t apart o.0 o.1 (deeper within))
      (λ same. let one = one_name t p.0 o.0 p.1 o.1 digits good same in off (λ i. (one.0 i, one.1 i)))
    where
      deeper : IsWithin (object_path t p.0 p.1) (object_path root o.0 o.1) → IsWithin t (object_path root o.0 o.1)
      deeper (inl is) = below_work t p.0 p.1 (object_path root o.0 o.1) is
      deeper (inr above) = inr (above_on t (object_path t p.0 p.1) (object_path root o.0 o.1) (inr (inr (inl refl))) above)

-- ---- one object more

module _ (root t : Elements) (apart : IsApart root t) (objects left : List Named) (o : Named) {u v : View} (ready : AreReady t objects u) (some : PlacesSome root t objects (left ++ o ∷ []) u v) (now : AreReady t (left ++ o ∷ []) v) where
  here : IsReadyIn t o v
  here = now.each o (in_last left o)

  once : IsOnce left × (In left o → ⊥)
  once = once_front left o now.once

  not_this : (p : Named) → In left p → p ≡ o → ⊥
  not_this p has same = once.1 (subst (In left) same has)

  pub placed_more : {w : View} → IsTree u → IsTree v → IsTree w → Places (object_path t o.0 o.1) (object_path root o.0 o.1) v w → WasPlaced (object_path t o.0 o.1) (object_path root o.0 o.1) v w → MakesNoFile v w
      → PlacesSome root t objects left u w × AreReady t left w
  placed_more {w = w} tree_u tree_v tree_w places was none = (
    record {
      among = λ p has. some.among p (in_push left o p has);
      came = λ p has. elim (some.came p has) [
        | inl waits ↦ elim (in_cases left o p waits) [
          | inl still ↦ inl still
          | inr is ↦ inr (
            λ again. once.1 (subst (In left) (sym is) again),
            subst (CameTo root t u w) is (placed_there (object_path t o.0 o.1) (object_path root o.0 o.1) v w places was tree_v tree_w
                ∙ shown_stays (object_path t o.0 o.1) u v (some.still o (in_last left o)).0 tree_u tree_v),
          )
        ]
        | inr before ↦ inr (
          λ again. before.0 (in_push left o p again),
          shown_stays (object_path root p.0 p.1) v w
              (other_stays root t apart o here.digits places p (ready.each p has).digits (λ same. before.0 (subst (In (left ++ o ∷ [])) (sym same) (in_last left o)))) tree_v tree_w ∙ before.1,
        )
      ];
      put = λ p has. elim (some.put p has) [
        | inl waits ↦ elim (in_cases left o p waits) [
          | inl still ↦ inl still
          | inr is ↦ inr (subst (WasPut root t u w) is (subst (λ (e : Slot). Contains w.stood (object_path root o.0 o.1, e)) (some.still o (in_last left o)).0.name was.stood))
        ]
        | inr before ↦ inr (places.keeps.stood (object_path root p.0 p.1, u.names (object_path t p.0 p.1)) before)
      ];
      only = λ q id below had. elim (places.keeps.puts (q, file id) had) [
        | inl before ↦ some.only q id below before
        | inr put ↦ elim put [
          | inl at ↦ inr (o, some.among o (in_last left o), at.0, sym (some.still o (in_last left o)).0.name ∙ sym at.1)
          | inr other ↦ elim other [ inl away ↦ absurd (cc away.1) | inr made ↦ absurd (cc made.1) ]
        ]
      ];
      files = files_on some.files (files_kept places.keeps);
      empty = shares_on some.empty (shares_empty places.keeps) (files_kept places.keeps);
      still = λ p has.
          let digits = (now.each p (in_push left o p has)).digits in
          let before = some.still p (in_push left o p has) in
          (stays_on before.0 (work_stays root t apart o here.digits places p digits (not_this p has)), stays_on before.1 (other_stays root t apart o here.digits places p digits (not_this p has)));
      others = λ d kind digits off. stays_on (some.others d kind digits off)
          (other_stays root t apart o here.digits places (d, kind) digits (λ same. off (subst (In objects) (sym same) (some.among o (in_last left o)))));
    },
    record {
      each = λ p has.
          let before = now.each p (in_push left o p has) in
          record {
            digits = before.digits;
            ready = ready_stays (object_path t p.0 p.1) v w (work_stays root t apart o here.digits places p before.digits (not_this p has)) tree_v tree_w p.0 p.1 none.unsynced before.ready;
          };
      once = once.0;
    },
  )

  pub lacking_here : AreLacking root objects u → v.names (object_path root o.0 o.1) ≡ absent
  lacking_here lacking = (some.still o (in_last left o)).1.name ∙ lacking.free o (some.among o (in_last left o))

pub none_placed : {root t : Elements} {objects : List Named} {u w : View} → w ≡ u → AreReady t objects u → PlacesSome root t objects objects u w × AreReady t objects w
none_placed {root = root} {t = t} {objects = objects} {u = u} {w = w} same ready = (
  subst (PlacesSome root t objects objects u) (sym same) (record {
    among = λ o has. has;
    came = λ o has. inl has;
    put = λ o has. inl has;
    only = λ q id below had. inl had;
    files = files_stay;
    empty = shares_refl;
    still = λ o has. (stays_same, stays_same);
    others = λ d kind digits off. stays_same;
  }),
  subst (AreReady t objects) (sym same) ready,
)

pub all_placed : {root t : Elements} {objects : List Named} {u w : View} → PlacesSome root t objects [] u w → PlacesAll root t objects u w
all_placed some = record {
  came = λ o has. elim (some.came o has) [ inl none ↦ absurd none | inr came ↦ came.1 ];
  put = λ o has. elim (some.put o has) [ inl none ↦ absurd none | inr put ↦ put ];
  only = some.only;
  files = some.files;
  empty = some.empty;
  others = some.others;
}

-- ---- over the moments

-- what is known between two objects
abbrev pub Between : Elements → Elements → List Named → List Named → View → View → Type 0
Between root t objects left u w = AreReady t objects u → PlacesSome root t objects left u w × AreReady t left w

module _ {root t : Elements} (apart : IsApart root t) (objects left : List Named) (o : Named) {a b : Option Moments} (told : IsTold b) (so_far : Always (PullsReady root t objects) a b) (known : AtEnd (Between root t objects (left ++ o ∷ [])) a b) where
  pub pulls_next : {c : Option Moments} → Always (Places (object_path t o.0 o.1) (object_path root o.0 o.1)) b c → Always (PullsReady root t objects) a c
  pulls_next places = goes_on told (goes_known so_far known) places (λ u v w tree r q s. step u v w r q.1 s) (λ u v w tree r q s e. step u v w r q.1 s)
    where
      step : (u v w : View) → PullsReady root t objects u v → Between root t objects (left ++ o ∷ []) u v → Places (object_path t o.0 o.1) (object_path root o.0 o.1) v w → PullsReady root t objects u w
      step u v w r q s ready lacking =
          let k = q ready in
          let h = k.1.each o (in_last left o) in
          pulls_on root t apart (r ready lacking) (placed_pulls root t apart o h.digits s h.ready (lacking_here root t apart objects left o ready k.0 k.1 lacking))

  pub between_next : {c : Option Moments} → IsTold a → IsTold c → Always (Places (object_path t o.0 o.1) (object_path root o.0 o.1)) b c → AtEnd (WasPlaced (object_path t o.0 o.1) (object_path root o.0 o.1)) b c → AtEnd MakesNoFile b c
      → AtEnd (Between root t objects left) a c
  between_next told_a told_c places was none =
      ends_on (to_tree told_c (ends_both (ends_both (ends_goes told places) was) none)) (from_tree told_a known) told
      (λ u v w tree q s ready. let k = q.1 ready in placed_more root t apart objects left o ready k.0 k.1 q.0 tree s.0 s.1.0.0 s.1.0.1 s.1.1)

  -- the object may be placed
  pub can_place_next : {u v : View} → PullsReady root t objects u v → Between root t objects (left ++ o ∷ []) u v → CanPlaceAll root t objects u → CanPlace root (object_path t o.0 o.1) o.0 o.1 v
  can_place_next pulls between can =
      let k = between can.ready in
      let h = k.1.each o (in_last left o) in
      record {
        ready = h.ready;
        free = lacking_here root t apart objects left o can.ready k.0 k.1 can.lacking;
        folders = record { free = λ q has. (pulls_open root t apart (pulls can.ready can.lacking) can.open_above).free q (above_object root o.0 o.1 q h.digits has) };
      }
