-- Rows that come to their paths.
use Rattle.std.proofs.Common.{◌≡◌, inl, inr, ◌<◌, ◌+◌, ℕ, List, [], ◌∷◌, take, drop, length, true, Option, Result, Ok, sym, ◌∙◌, ap, subst, Contains}
use Rattle.std.specs.Prelude.{is_some}
use Rattle.std.proofs.lemmas.List.{take-append-drop}
use Rattle.std.proofs.lemmas.List.Elements.{Contains-append_left, Contains-push, Contains-push_cases}
use Rattle.fp_host.specs.Paths.{Elements, Slot, absent, dir, file, link}
use Rattle.fp_host.specs.View.{View, IsTree}
use Rattle.fp_host.specs.Calls.{HasFolder, IsLeaf, makes_dir, Step}
use Rattle.fp_host.specs.Outcome.{Spot, spot_of, shows}
use Rattle.fp_host.proofs.Settled.{at_tree}
use Rattle.fp_host.specs.Frame.{Keeps, AtEnd, NoPath}
use Rattle.fp_host.specs.declared.host.HostError.{HostError}
use Rattle.fp_host.proofs.Follow.{called}
use Rattle.fp_host.proofs.Framed.{IsTold, keeps_refl, keeps_same, keeps_on, keeps_to, keeps_call}
use Rattle.fp_host.proofs.Goes.{stays, begins, goes_on, makes_goes}
use Rattle.fp_host.proofs.Ending.{goes_known}
use Rattle.fp_host.specs.Moments.{Moments, Makes, Always}
use Rattle.std.proofs.Math.Seq.{take-length}
use Rattle.fp_small.proofs.Making.{made_dir}
use Rattle.fp_base.specs.declared.object.ObjKind.{ObjKind}
use Rattle.fp_base.specs.declared.object.ObjKind.TheVariants as kinds
use Rattle.fp_base.proofs.Lists.{in_none, in_map}
use Rattle.ost_model.specs.Objects.{object_path, object_at, store}
use Rattle.ost_store.proofs.Staying.{shown_stays}
use Rattle.ost_checkout.specs.declared.rows.Row.{Row}
use Rattle.ost_checkout.specs.declared.rows.Entry.{Entry}
use Rattle.ost_checkout.specs.declared.rows.Entry.TheVariants as entries
use Rattle.ost_checkout.specs.Checkout.{MayBeLeft}
use Rattle.ost_checkout.specs.Rows.{path_of, paths_of, IsDir, HasParent}
use Rattle.ost_checkout.specs.Listing.{IsAt}
use Rattle.ost_checkout.specs.Placing.{EntrySpot, EntrySlot, EntryThere, Copies, WasCopied, PutsRow, WasPut, CanPut, CanCopyObject, IsRowAt, IsRowName, Fits, PutsRows, WerePut, CanPutRows}
use Rattle.ost_checkout.proofs.Listed.{row_in, taken, rung_at}

-- ---- one row

pub puts_dir : {root : Elements} {row : Row} {r : Result (Unit {0}) HostError} {v w : View} (tree meta : List ℕ) → row.entry ≡ entries.Dir tree meta → IsTree v → Step (makes_dir row.path) r v w → PutsRow root row v w
puts_dir {root = root} {v = v} tree meta is t step = record {
  keeps = keeps_call t
      (λ q spot h. (h.0, subst (λ (e : Entry). EntrySpot root v e spot) (sym is) h.1))
      (λ q e h. (h.0, subst (λ (x : Entry). EntrySlot root v x e) (sym is) h.1))
      (λ x id h. absurd h) tt tt (called step);
}

pub was_made : {root : Elements} {row : Row} {v w : View} (tree meta : List ℕ) → row.entry ≡ entries.Dir tree meta → Step (makes_dir row.path) (Ok tt) v w → WasPut root row v w
was_made {root = root} {row = row} {v = v} {w = w} tree meta is step =
    let made = made_dir step in
    record { free = step.how.0.1; slot = subst (λ (e : Entry). EntrySlot root v e (w.names row.path)) (sym is) made; there = λ none. cc (sym made ∙ none) }

pub puts_file : {root : Elements} {row : Row} {v w : View} (d : List ℕ) → row.entry ≡ entries.File d → Copies (object_path root d kinds.File) row.path v w → PutsRow root row v w
puts_file {root = root} {v = v} d is copies = record {
  keeps = keeps_to
      (λ q spot h. (h.0, subst (λ (e : Entry). EntrySpot root v e spot) (sym is) h.1))
      (λ q e h. (h.0, subst (λ (x : Entry). EntrySlot root v x e) (sym is) h.1))
      (λ q none. none) (λ q id none h. none) copies.keeps;
}

pub was_copied : {root : Elements} {row : Row} {v w : View} (d : List ℕ) → row.entry ≡ entries.File d → WasCopied (object_path root d kinds.File) row.path v w → WasPut root row v w
was_copied {root = root} {row = row} {v = v} {w = w} d is was = record {
  free = was.free;
  slot = subst (λ (e : Entry). EntrySlot root v e (w.names row.path)) (sym is) was.same;
  there = was.there;
}

-- ---- a row more

entry_dir : (root : Elements) (v : View) (e : Entry) (s : Slot) → IsDir e → EntrySlot root v e s → s ≡ dir
entry_dir root v (entries.Dir tree meta) s is slot = slot
entry_dir root v (entries.File d) s is slot = absurd is

taken_in : (rows : List Row) (i : ℕ) (x : Row) → Contains (take i rows) x → Contains rows x
taken_in rows i x has = subst (λ (l : List Row). Contains l x) (take-append-drop i rows) (Contains-append_left (take i rows) (drop i rows) x has)

-- the rows so far, and nothing else, came; no object's name is among their paths
pub record ArePut (root : Elements) (rows : List Row) (i : ℕ) (u v : View) : Type 0 where
  pub keeps : Keeps (IsRowAt root (take i rows) u) (IsRowName root (take i rows) u) NoPath u v
  pub each : (row : Row) → Contains (take i rows) row → WasPut root row u v

pub none_put : (root : Elements) (rows : List Row) {u v : View} → v ≡ u → ArePut root rows 0 u v
none_put root rows same = record { keeps = keeps_same same; each = λ row has. absurd (in_none row has) }

module _ {root : Elements} (rows : List Row) (i : ℕ) (row : Row) (low : i < length rows) (at : IsAt rows i row) (fits : Fits root rows) {u v : View} (before : ArePut root rows i u v) where
  off_object : (d : List ℕ) (kind : ObjKind) (x : Row) → Contains (take i rows) x → object_path root d kind ≡ x.path → ⊥
  off_object d kind x has same = fits.apart d kind (subst (Contains (paths_of rows)) (sym same) (in_map path_of rows x (taken_in rows i x has)))

  object_name : (d : List ℕ) (kind : ObjKind) → v.names (object_path root d kind) ≡ u.names (object_path root d kind)
  object_name d kind = elim (before.keeps.names (object_path root d kind)) [ inl same ↦ same | inr put ↦ absurd (off_object d kind put.row put.among put.may.0) ]

  object_left : (d : List ℕ) (kind : ObjKind) (spot : Spot) → MayBeLeft v (object_path root d kind) spot → MayBeLeft u (object_path root d kind) spot
  object_left d kind spot left =
      let b = before.keeps.follows.from left.disk left.left in
      elim (b.2 (object_path root d kind)) [
        | inl same ↦ record { disk = b.0; left = b.1; is = left.is ∙ same }
        | inr given ↦ absurd (off_object d kind given.row given.among given.may.0)
      ]

  entry_spot : (e : Entry) (spot : Spot) → EntrySpot root v e spot → EntrySpot root u e spot
  entry_spot (entries.Dir tree meta) spot h = h
  entry_spot (entries.File d) spot h = object_left d kinds.File spot h

  entry_slot : (e : Entry) (s : Slot) → EntrySlot root v e s → EntrySlot root u e s
  entry_slot (entries.Dir tree meta) s h = h
  entry_slot (entries.File d) s h = h ∙ object_name d kinds.File

  this_in : Contains (take (i + 1) rows) row
  this_in = subst (λ (l : List Row). Contains l row) (sym (taken rows i row low at)) (Contains-push (take i rows) row)

  earlier_in : (x : Row) → Contains (take i rows) x → Contains (take (i + 1) rows) x
  earlier_in x has = subst (λ (l : List Row). Contains l x) (sym (taken rows i row low at)) (Contains-append_left (take i rows) (row ∷ []) x has)

  -- at any moment
  pub row_keeps : {w : View} → PutsRow root row v w → Keeps (IsRowAt root (take (i + 1) rows) u) (IsRowName root (take (i + 1) rows) u) NoPath u w
  row_keeps puts = keeps_on
      (keeps_to (λ q spot h. record { row = h.row; among = earlier_in h.row h.among; may = h.may }) (λ q e h. record { row = h.row; among = earlier_in h.row h.among; may = h.may }) (λ q none. none) (λ q id none h. none) before.keeps)
      (keeps_to (λ q spot h. record { row = row; among = this_in; may = (h.0, entry_spot row.entry spot h.1) }) (λ q e h. record { row = row; among = this_in; may = (h.0, entry_slot row.entry e h.1) }) (λ q none. none) (λ q id none h. none) puts.keeps)

  pub all_keeps : {w : View} → PutsRow root row v w → Keeps (IsRowAt root rows u) (IsRowName root rows u) NoPath u w
  all_keeps puts = keeps_to
      (λ q spot h. record { row = h.row; among = taken_in rows (i + 1) h.row h.among; may = h.may }) (λ q e h. record { row = h.row; among = taken_in rows (i + 1) h.row h.among; may = h.may })
      (λ q none. none) (λ q id none h. none) (row_keeps puts)

  once : Contains (paths_of (take i rows)) row.path → ⊥
  once has = (rung_at fits.to rows i row low at fits.ladder).once has

  off_row : (x : Row) → Contains (take i rows) x → row.path ≡ x.path → ⊥
  off_row x has same = once (subst (Contains (paths_of (take i rows))) (sym same) (in_map path_of (take i rows) x has))

  this_name : v.names row.path ≡ u.names row.path
  this_name = elim (before.keeps.names row.path) [ inl same ↦ same | inr put ↦ absurd (off_row put.row put.among put.may.0) ]

  -- after it
  pub next_put : {w : View} → PutsRow root row v w → WasPut root row v w → ArePut root rows (i + 1) u w
  next_put {w = w} puts was = record {
    keeps = row_keeps puts;
    each = λ x has. elim (Contains-push_cases (take i rows) row x (subst (λ (l : List Row). Contains l x) (taken rows i row low at) has)) [
      | inl earlier ↦
          let b = before.each x earlier in
          let same : w.names x.path ≡ v.names x.path = elim (puts.keeps.names x.path) [ inl same ↦ same | inr put ↦ absurd (off_row x earlier (sym put.0)) ] in
          record { free = b.free; slot = subst (EntrySlot root u x.entry) (sym same) b.slot; there = λ none. b.there (sym same ∙ none) }
      | inr same ↦ subst (λ (y : Row). WasPut root y u w) same (record { free = sym this_name ∙ was.free; slot = entry_slot row.entry (w.names row.path) was.slot; there = was.there })
    ];
  }

  -- where it may be put
  folder_there : (path : Elements) → HasParent (take i rows) path → HasFolder v path
  folder_there path p =
      let b = before.each p.parent p.among in
      subst (HasFolder v) (sym p.is) (entry_dir root u p.parent.entry (v.names p.parent.path) p.dir b.slot)

  pub can_put : IsTree u → IsTree v → (can : CanPutRows root rows u) → can.fits.to ≡ fits.to → CanPut root row v
  can_put tree tree' can same_to = record {
    above = elim (rung_at fits.to rows i row low at fits.ladder).stands [
      | inl first ↦ subst (HasFolder v) (sym first.1) (first_folder fits.to (sym same_to) first.0)
      | inr p ↦ folder_there row.path p
    ];
    free = this_name ∙ can.free row (row_in rows i row low at);
    there = entry_there row.entry (can.there row (row_in rows i row low at));
  }
    where
      -- nothing came before the first row
      unchanged : take i rows ≡ [] → (q : Elements) → v.names q ≡ u.names q
      unchanged none q = elim (before.keeps.names q) [ inl same ↦ same | inr put ↦ absurd (in_none put.row (subst (λ (l : List Row). Contains l put.row) none put.among)) ]

      by_path : (p : Elements) → take i rows ≡ [] → HasFolder u p → HasFolder v p
      by_path [] none above = absurd above
      by_path (x ∷ up) none above = unchanged none up ∙ above

      first_folder : (p : Elements) → p ≡ can.fits.to → take i rows ≡ [] → HasFolder v p
      first_folder p same none = by_path p none (subst (HasFolder u) (sym same) can.above)

      entry_there : (e : Entry) → EntryThere root u e → EntryThere root v e
      entry_there (entries.Dir tree meta) there = tt
      entry_there (entries.File d) there =
          ap (λ s. is_some (object_at kinds.File s)) (shown_stays (object_path root d kinds.File) u v (record { name = object_name d kinds.File; row = λ id f is row. before.keeps.files id f row (λ q none is. none) }) tree tree') ∙ there

pub all_put : {root : Elements} (rows : List Row) (i : ℕ) {u v : View} → length rows ≡ i → ArePut root rows i u v → WerePut root rows u v
all_put {root = root} rows i {u = u} {v = v} is put = record {
  each = λ row has. put.each row (subst (λ (l : List Row). Contains l row) (sym (ap (λ (k : ℕ). take k rows) (sym is) ∙ take-length rows)) has);
}

-- ---- over the moments

pub nothing_put : {a : Option Moments} {root : Elements} {rows : List Row} → IsTold a → Always (PutsRows root rows) a a
nothing_put told = stays told (λ u. record { keeps = λ fits. keeps_refl }) (λ u t. record { keeps = λ fits. keeps_refl })

pub going_on : {a b c : Option Moments} {root : Elements} (rows : List Row) (i : ℕ) (row : Row) → i < length rows → IsAt rows i row → IsTold b → Always (PutsRows root rows) a b → AtEnd (λ u w. Fits root rows → ArePut root rows i u w) a b
    → Always (PutsRow root row) b c → Always (PutsRows root rows) a c
going_on rows i row low at told before put puts = goes_on told (goes_known before put) puts
    (λ u v w t r q s. record { keeps = λ fits. all_keeps rows i row low at fits (q.1 fits) s })
    (λ u v w t r q s e. record { keeps = λ fits. all_keeps rows i row low at fits (q.1 fits) e })

pub putting_dir : {a b : Option Moments} {root : Elements} {row : Row} {r : Result (Unit {0}) HostError} (tree meta : List ℕ) → row.entry ≡ entries.Dir tree meta → IsTold a → Makes (Step (makes_dir row.path) r) a b → Always (PutsRow root row) a b
putting_dir tree meta is told call = begins told (makes_goes call) (λ u w t s. puts_dir tree meta is t s) (λ u w t s q. puts_dir tree meta is t s)

pub putting_file : {a b : Option Moments} {root : Elements} {row : Row} (d : List ℕ) → row.entry ≡ entries.File d → IsTold a → Always (Copies (object_path root d kinds.File) row.path) a b → Always (PutsRow root row) a b
putting_file d is told copies = begins told copies (λ u w t s. puts_file d is s) (λ u w t s q. puts_file d is s)

-- ---- a file or a link is there

leaf_of : (v : View) (e : Slot) → is_some (object_at kinds.File (spot_of v.files e)) ≡ true → IsLeaf e
leaf_of v absent there = absurd (cc there)
leaf_of v dir there = absurd (cc there)
leaf_of v (file id) there = tt
leaf_of v (link text) there = tt

pub can_copy : {root : Elements} {row : Row} {u : View} (d : List ℕ) → row.entry ≡ entries.File d → IsTree u → CanPut root row u → CanCopyObject (object_path root d kinds.File) row.path u
can_copy {root = root} {row = row} {u = u} d is tree can =
    let path = object_path root d kinds.File in
    let there : is_some (store root (shows u) d kinds.File) ≡ true = subst (λ (e : Entry). EntryThere root u e) is can.there in
    record {
      leaf = leaf_of u (u.names path) (ap (λ (e : Slot). is_some (object_at kinds.File (spot_of u.files e))) (sym (at_tree u tree path)) ∙ there);
      place = record { above = can.above; free = can.free };
    }
