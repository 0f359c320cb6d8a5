-- A commit that is laid out.
use Rattle.std.proofs.Common.{◌≡◌, ◌⊎◌, inl, inr, ℕ, true, false, ◌||◌, List, [], ◌∷◌, ◌++◌, Option, Some, None, refl, sym, ◌∙◌, ap, subst, Contains}
use Rattle.std.specs.Prelude.{is_some, codes}
use Rattle.std.specs.List.{list_any}
use Rattle.std.proofs.lemmas.Bool.{cases_Bool, both_ways}
use Rattle.std.proofs.lemmas.List.{append_cancel_right}
use Rattle.fp_host.specs.Paths.{Elements, Slot, absent, dir, path_eq, IsAbove}
use Rattle.fp_host.specs.View.{View, IsTree}
use Rattle.fp_host.specs.Outcome.{Spot, Disk, Leaves, shows, spot_of}
use Rattle.fp_host.specs.Frame.{Keeps, AtEnd, Unchanged, NoPath}
use Rattle.fp_host.specs.Moments.{Moments, Always}
use Rattle.fp_host.proofs.Separate.{path_decides}
use Rattle.fp_host.proofs.Settled.{at_tree}
use Rattle.fp_host.proofs.Framed.{IsTold, keeps_same, keeps_to}
use Rattle.fp_host.proofs.Goes.{begins, goes_on}
use Rattle.fp_host.proofs.Ending.{goes_known, ends_goes, ends_on, ends_both, ends_in_tree, ends_looks}
use Rattle.fp_small.specs.Clear.{IsWithin}
use Rattle.fp_base.specs.declared.object.ObjKind.{ObjKind}
use Rattle.fp_base.specs.declared.object.ObjKind.TheVariants as kinds
use Rattle.fp_base.proofs.Lists.{in_none, in_first, in_rest, in_cases, from_map}
use Rattle.ost_model.specs.Objects.{Have, object_path, object_at, object_fault, store}
use Rattle.ost_model.specs.Order.{order}
use Rattle.ost_model.specs.Look.{Found, nothing, directory, file_at, look}
use Rattle.ost_model.specs.Standing.{expected, deploy_name}
use Rattle.ost_model.proofs.Places.{faultless}
use Rattle.ost_model.proofs.Looked.{file_reached, found_cases}
use Rattle.ost_store.proofs.Staying.{shown_stays}
use Rattle.ost_checkout.specs.declared.rows.Row.{Row}
use Rattle.ost_checkout.specs.declared.rows.Entry.{Entry}
use Rattle.ost_checkout.specs.declared.rows.Entry.TheVariants as entries
use Rattle.ost_checkout.specs.Checkout.{SpotOf, SlotOf, ChecksOutAt, ChecksOutName, IsApart, ChecksOut, IsCheckedOut, WasCheckedOut, HasReserved, CanCheckOut}
use Rattle.ost_model.specs.declared.object.Object.{Object}
use Rattle.ost_checkout.specs.Rows.{path_of, paths_of, IsFoundAs, IsLadder, AreRows}
use Rattle.ost_checkout.specs.Listing.{HasRows}
use Rattle.ost_checkout.specs.Placing.{EntrySpot, EntrySlot, EntryThere, IsRowAt, IsRowName, Fits, PutsRows, WerePut, CanPutRows}

-- ---- rows are what is found

spot_found : (root : Elements) (v : View) (e : Entry) (found : Found) (spot : Spot) → IsFoundAs e found → EntrySpot root v e spot → SpotOf root v found spot
spot_found root v (entries.Dir tree meta) found spot is may = subst (λ (f : Found). SpotOf root v f spot) (sym is.1) may
spot_found root v (entries.File d) found spot is may = subst (λ (f : Found). SpotOf root v f spot) (sym is) may

slot_found : (root : Elements) (v : View) (e : Entry) (found : Found) (s : Slot) → IsFoundAs e found → EntrySlot root v e s → SlotOf root v found s
slot_found root v (entries.Dir tree meta) found s is may = subst (λ (f : Found). SlotOf root v f s) (sym is.1) may
slot_found root v (entries.File d) found s is may = subst (λ (f : Found). SlotOf root v f s) (sym is) may

above_more : (x : List ℕ) (rest to : Elements) → IsAbove to (x ∷ (rest ++ to))
above_more x [] to = inl refl
above_more x (y ∷ rest) to = inr (above_more y rest to)

-- a path below the folder, or the folder
pub below : (rest to : Elements) → IsWithin to (rest ++ to)
below [] to = inl refl
below (x ∷ rest) to = inr (above_more x rest to)

pub fits_rows : {root : Elements} {commit : List ℕ} {to : Elements} {have : Have} {rows : List Row} → IsApart root to → AreRows have commit to rows → Fits root rows
fits_rows {root = root} {to = to} {rows = rows} apart are = record {
  apart = λ d kind has.
      let row = from_map path_of rows (object_path root d kind) has in
      let r = are.each row.0 row.1 in
      apart.off d kind (subst (IsWithin to) (sym (row.2 ∙ r.at)) (below r.rest to));
  to = to;
  ladder = are.ladder;
}

-- ---- at every moment

pub checks_out : {root : Elements} {commit : List ℕ} {to : Elements} {rows : List Row} {u v w : View} → v ≡ u → HasRows root commit to u rows → PutsRows root rows v w → ChecksOut root commit to u w
checks_out {root = root} {commit = commit} {to = to} {rows = rows} {u = u} {w = w} same are puts = record {
  keeps = λ apart. keeps_to at name (λ q none. none) (λ q id none h. none)
      (subst (λ (x : View). Keeps (IsRowAt root rows x) (IsRowName root rows x) NoPath x w) same (puts.keeps (fits_rows apart are)));
}
  where
    at : (q : Elements) (spot : Spot) → IsRowAt root rows u q spot → ChecksOutAt root commit to u q spot
    at q spot h =
        let r = are.each h.row h.among in
        record { rest = r.rest; at = h.may.0 ∙ r.at; may = spot_found root u h.row.entry (look (store root (shows u)) commit r.rest) spot r.is h.may.1 }

    name : (q : Elements) (e : Slot) → IsRowName root rows u q e → ChecksOutName root commit to u q e
    name q e h =
        let r = are.each h.row h.among in
        record { rest = r.rest; at = h.may.0 ∙ r.at; may = slot_found root u h.row.entry (look (store root (shows u)) commit r.rest) e r.is h.may.1 }

pub looked : {a b : Option Moments} {root : Elements} {commit : List ℕ} {to : Elements} → IsTold a → Unchanged a b → Always (ChecksOut root commit to) a b
looked told still = begins told still.goes (λ u w t same. record { keeps = λ apart. keeps_same same }) (λ u w t same q. record { keeps = λ apart. keeps_same same })

pub laying : {a b c : Option Moments} {root : Elements} {commit : List ℕ} {to : Elements} {rows : List Row} → IsTold a → IsTold b → Unchanged a b → AtEnd (λ u w. HasRows root commit to u rows) a b
    → Always (PutsRows root rows) b c → Always (ChecksOut root commit to) a c
laying told between still rows puts = goes_on between (goes_known (looked told still) (ends_both (ends_looks told still) rows)) puts
    (λ u v w t r q s. checks_out q.1.0.0 q.1.1 s) (λ u v w t r q s e. checks_out q.1.0.0 q.1.1 e)

-- ---- all of it

-- nothing is below what is absent
below_absent : (v : View) → IsTree v → (to rest : Elements) → v.names to ≡ absent → v.names (rest ++ to) ≡ absent
below_absent v tree to [] none = none
below_absent v tree to (x ∷ rest) none = elim (tree.above x (rest ++ to)) [ inl nowhere ↦ nowhere | inr there ↦ absurd (cc (below_absent v tree to rest none, there)) ]

module _ {root : Elements} {commit : List ℕ} {to : Elements} {rows : List Row} {u w : View} (tree : IsTree u) (tree' : IsTree w) (apart : IsApart root to) (are : HasRows root commit to u rows) (puts : PutsRows root rows u w) (were : Fits root rows → WerePut root rows u w) where
  fits : Fits root rows
  fits = fits_rows apart are

  out : Keeps (ChecksOutAt root commit to u) (ChecksOutName root commit to u) NoPath u w
  out = (checks_out refl are puts).keeps apart

  -- an object stays as it is
  object_same : (d : List ℕ) (kind : ObjKind) → shows w (object_path root d kind) ≡ shows u (object_path root d kind)
  object_same d kind =
      let name : w.names (object_path root d kind) ≡ u.names (object_path root d kind) = elim (out.names (object_path root d kind)) [
        | inl same ↦ same
        | inr put ↦ absurd (apart.off d kind (subst (IsWithin to) (sym put.at) (below put.rest to)))
      ] in
      shown_stays (object_path root d kind) u w (record { name = name; row = λ id f is row. out.files id f row (λ q none is. none) }) tree tree'

  have_same : store root (shows w) ≡ store root (shows u)
  have_same = λ i d kind. object_at kind (object_same d kind i)

  -- the folder was absent
  was_free : u.names to ≡ absent
  was_free = first rows are.ladder fits
    where
      first : (l : List Row) → IsLadder to l → Fits root rows → u.names to ≡ absent
      first l ladder fits = by_row (from_map path_of rows to (in_paths rows are.ladder))
        where
          in_paths : (l : List Row) → IsLadder to l → Contains (paths_of l) to
          in_paths [] ladder = absurd ladder
          in_paths (row ∷ l) ladder = subst (Contains (row.path ∷ paths_of l)) ladder.0 (in_first row.path (paths_of l))

          by_row : ((row : Row) × Contains rows row × (to ≡ row.path)) → u.names to ≡ absent
          by_row r = ap u.names r.2 ∙ ((were fits).each r.0 r.1).free

  shown_at : (q : Elements) (e : Slot) → w.names q ≡ e → shows w q ≡ spot_of w.files e
  shown_at q e is = ap (spot_of w.files) (at_tree w tree' q ∙ is)

  name_same : (d : List ℕ) → w.names (object_path root d kinds.File) ≡ u.names (object_path root d kinds.File)
  name_same d = elim (out.names (object_path root d kinds.File)) [
    | inl same ↦ same
    | inr put ↦ absurd (apart.off d kinds.File (subst (IsWithin to) (sym put.at) (below put.rest to)))
  ]

  -- what is found is there
  slot_there : (rest : Elements) (found : Found) → look (store root (shows u)) commit rest ≡ found → (found ≡ nothing → ⊥) → SlotOf root u found (w.names (rest ++ to))
  slot_there rest found is some =
      let row = from_map path_of rows (rest ++ to) (are.all rest (λ none. some (sym is ∙ none))) in
      let r = are.each row.0 row.1 in
      let here : r.rest ≡ rest = append_cancel_right r.rest rest to (sym r.at ∙ sym row.2) in
      let slot = slot_found root u row.0.entry (look (store root (shows u)) commit r.rest) (w.names row.0.path) r.is ((were fits).each row.0 row.1).slot in
      subst (λ (f : Found). SlotOf root u f (w.names (rest ++ to))) (ap (look (store root (shows u)) commit) here ∙ is) (subst (λ (p : Elements). SlotOf root u (look (store root (shows u)) commit r.rest) (w.names p)) (sym row.2) slot)

  by_found : (rest : Elements) (found : Found) → look (store root (shows u)) commit rest ≡ found → shows w (rest ++ to) ≡ expected root (shows w) found
  by_found rest nothing is = shown_at (rest ++ to) absent (none_there (out.names (rest ++ to)))
    where
      none_there : (w.names (rest ++ to) ≡ u.names (rest ++ to)) ⊎ ChecksOutName root commit to u (rest ++ to) (w.names (rest ++ to)) → w.names (rest ++ to) ≡ absent
      none_there (inl same) = same ∙ below_absent u tree to rest was_free
      none_there (inr put) =
          let here : put.rest ≡ rest = append_cancel_right put.rest rest to (sym put.at) in
          absurd (subst (λ (f : Found). SlotOf root u f (w.names (rest ++ to))) (ap (look (store root (shows u)) commit) here ∙ is) put.may)
  by_found rest (directory row) is = shown_at (rest ++ to) dir (slot_there rest (directory row) is (λ none. cc none))
  by_found rest (file_at d) is =
      let path = object_path root d kinds.File in
      let same : w.names (rest ++ to) ≡ w.names path = slot_there rest (file_at d) is (λ none. cc none) ∙ sym (name_same d) in
      shown_at (rest ++ to) (w.names path) same ∙ sym (shown_at path (w.names path) refl)

  pub laid_out : IsCheckedOut root commit to w
  laid_out = record {
    paths = λ rest.
        by_found rest (look (store root (shows u)) commit rest) refl
        ∙ ap (λ (h : Have). expected root (shows w) (look h commit rest)) (sym have_same);
  }

-- ---- the name `deploy`

any_path : (rows : List Row) (p : Elements) → list_any (λ row. path_eq row.path p) rows ≡ true → Contains (paths_of rows) p
any_path [] p is = absurd (cc is)
any_path (row ∷ rows) p is = elim (cases_Bool (path_eq row.path p)) [
  | inl t ↦ subst (Contains (row.path ∷ paths_of rows)) ((path_decides row.path p).0 t) (in_first row.path (paths_of rows))
  | inr n ↦ in_rest row.path (paths_of rows) p (any_path rows p (ap (λ b. b || list_any (λ x. path_eq x.path p) rows) (sym n) ∙ is))
]

no_path : (rows : List Row) (p : Elements) → list_any (λ row. path_eq row.path p) rows ≡ false → Contains (paths_of rows) p → ⊥
no_path [] p is has = in_none p has
no_path (row ∷ rows) p is has = elim (cases_Bool (path_eq row.path p)) [
  | inl t ↦ absurd (cc (sym (ap (λ b. b || list_any (λ x. path_eq x.path p) rows) t) ∙ is))
  | inr n ↦ elim (in_cases row.path (paths_of rows) p has) [
    | inl same ↦ both_ways (path_eq row.path p) n ((path_decides row.path p).1 (sym same))
    | inr later ↦ no_path rows p (ap (λ b. b || list_any (λ x. path_eq x.path p) rows) (sym n) ∙ is) later
  ]
]

module _ (root : Elements) {commit : List ℕ} {to : Elements} {rows : List Row} (u : View) (p : Elements) (named : p ≡ codes "deploy" ∷ to) (are : HasRows root commit to u rows) where
  pub is_reserved : list_any (λ row. path_eq row.path p) rows ≡ true → HasReserved root commit u
  is_reserved is = record {
    there = λ none.
        let row = from_map path_of rows p (any_path rows p is) in
        let r = are.each row.0 row.1 in
        let here : r.rest ≡ deploy_name = append_cancel_right r.rest deploy_name to (sym r.at ∙ sym row.2 ∙ named) in
        no_entry row.0.entry (subst (IsFoundAs row.0.entry) (ap (look (store root (shows u)) commit) here ∙ none) r.is);
  }
    where
      no_entry : (e : Entry) → IsFoundAs e nothing → ⊥
      no_entry (entries.Dir tree meta) is = absurd (cc is.1)
      no_entry (entries.File d) is = absurd (cc is)

  pub not_reserved : list_any (λ row. path_eq row.path p) rows ≡ false → look (store root (shows u)) commit deploy_name ≡ nothing
  not_reserved is = elim (found_cases (look (store root (shows u)) commit deploy_name)) [
    | inl none ↦ none
    | inr some ↦ absurd (no_path rows p is (subst (Contains (paths_of rows)) (sym named) (are.all deploy_name some)))
  ]

-- ---- where it may be laid out

pub can_put_rows : {root : Elements} {commit : List ℕ} {to : Elements} {rows : List Row} {u v : View} → v ≡ u → IsTree u → HasRows root commit to u rows → CanCheckOut root commit to u → CanPutRows root rows v
unfolding fits_rows
can_put_rows {root = root} {commit = commit} {to = to} {rows = rows} {u = u} same tree are can = subst (CanPutRows root rows) (sym same) (record {
  fits = fits_rows can.apart are;
  above = can.above;
  free = λ row has. let r = are.each row has in ap u.names r.at ∙ below_absent u tree to r.rest can.free;
  there = λ row has. let r = are.each row has in by_entry row.entry r.rest r.is;
})
  where
    have : Have
    have = store root (shows u)

    some_object : (d : List ℕ) (o : Option Object) → object_fault d kinds.File o ≡ None → is_some o ≡ true
    some_object d None good = absurd (cc good)
    some_object d (Some object) good = refl

    by_entry : (e : Entry) (rest : Elements) → IsFoundAs e (look (store root (shows u)) commit rest) → EntryThere root u e
    by_entry (entries.Dir tree meta) rest is = tt
    by_entry (entries.File d) rest is =
        let f = file_reached (store root (shows u)) commit can.whole rest d is in
        let good = (faultless (store root (shows u)) 0 (order (store root (shows u)) commit) can.whole f.place f.within).1 in
        some_object d (store root (shows u) d kinds.File)
        (subst (λ (k : ObjKind). object_fault d k (store root (shows u) d k) ≡ None) f.kind_is
        (subst (λ (x : List ℕ). object_fault x f.place.kind (store root (shows u) x f.place.kind) ≡ None) f.digest_is good))

-- ---- in the end

pub checked_out : {a b c : Option Moments} {root : Elements} {commit : List ℕ} {to : Elements} {rows : List Row} (p : Elements) → p ≡ codes "deploy" ∷ to → list_any (λ row. path_eq row.path p) rows ≡ false → IsTold a → IsTold b → IsTold c
    → Unchanged a b → AtEnd (λ u w. HasRows root commit to u rows) a b → Always (PutsRows root rows) b c → AtEnd (λ u w. Fits root rows → WerePut root rows u w) b c → AtEnd (WasCheckedOut root commit to) a c
checked_out {root = root} {commit = commit} {to = to} {rows = rows} p named off told between last still rows_are puts were =
    ends_on {T = λ u w. IsTree w × (PutsRows root rows u w × (Fits root rows → WerePut root rows u w))} (ends_in_tree last (ends_both (ends_goes between puts) were) (λ u w tree s. (tree, s))) (ends_both (ends_looks told still) rows_are) between
    (λ u v w tree q s. record {
      whole = λ apart. laid_out (subst IsTree q.0.0 tree) s.0 apart q.1 (subst (λ (x : View). PutsRows root rows x w) q.0.0 s.1.0) (subst (λ (x : View). Fits root rows → WerePut root rows x w) q.0.0 s.1.1);
      no_deploy = not_reserved root u p named q.1 off;
    })

-- ---- outside the folder

pub outside_name : {root : Elements} {commit : List ℕ} {to : Elements} {u w : View} (q : Elements) → IsApart root to → ChecksOut root commit to u w → (IsWithin to q → ⊥) → w.names q ≡ u.names q
outside_name {to = to} q apart out off = elim ((out.keeps apart).names q) [ inl same ↦ same | inr put ↦ absurd (off (subst (IsWithin to) (sym put.at) (below put.rest to))) ]

pub outside_stop : {root : Elements} {commit : List ℕ} {to : Elements} {u w : View} → IsApart root to → ChecksOut root commit to u w → (disk : Disk) → Leaves w disk
    → (before : Disk) × Leaves u before × ((q : Elements) → (IsWithin to q → ⊥) → disk q ≡ before q)
outside_stop {to = to} apart out disk left =
    let b = (out.keeps apart).follows.from disk left in
    (b.0, b.1, λ q off. elim (b.2 q) [ inl same ↦ same | inr given ↦ absurd (off (subst (IsWithin to) (sym given.at) (below given.rest to))) ])
