-- The rows that a directory brings.
use Rattle.std.proofs.Common.{◌≡◌, inl, ◌<◌, ◌≤◌, ◌+◌, ℕ, false, leb, List, [], ◌∷◌, length, None, refl, sym, ap, subst, arith, length-append}
use Rattle.std.proofs.lemmas.Bool.{leb-false}
use Rattle.fp_host.specs.Paths.{Elements}
use Rattle.fp_host.specs.View.{View}
use Rattle.fp_host.specs.Outcome.{shows}
use Rattle.ost_model.specs.Objects.{store}
use Rattle.ost_model.specs.Order.{first_fault, order}
use Rattle.ost_model.specs.Look.{at_root, look}
use Rattle.ost_model.proofs.Places.{faultless}
use Rattle.ost_checkout.specs.declared.rows.Row.{Row}
use Rattle.ost_checkout.specs.declared.rows.Entry.{Entry}
use Rattle.ost_checkout.specs.declared.rows.Entry.TheVariants as entries
use Rattle.ost_checkout.specs.Rows.{rows_in, IsFoundAs}
use Rattle.ost_checkout.specs.Reading.{HasCommit}
use Rattle.ost_checkout.specs.Listing.{ExpandsEntry, Expands, IsFirstRow, CanExpand, CanListRows}
use Rattle.ost_checkout.proofs.Listed.{AreListed, first_listed, file_listed, dir_listed, row_in}
use Rattle.ost_checkout.proofs.Counted.{AreCounted, first_counted, file_counted, dir_counted, tree_good, has_room}

-- ---- the first row

pub first_told : {root : Elements} {commit : List ℕ} {to : Elements} {v : View} (rows : List Row) (row : Row) → rows ≡ row ∷ [] → IsFirstRow root commit to v row → AreListed (store root (shows v)) commit to rows 0
first_told {root = root} {commit = commit} {to = to} {v = v} rows row alone first = first_listed rows row alone first.path (record {
  rest = [];
  at = first.path;
  is = subst (λ (e : Entry). IsFoundAs e (look (store root (shows v)) commit [])) (sym first.entry) ([], ap at_root first.read);
})

pub first_count : {root : Elements} {commit : List ℕ} {to : Elements} {v : View} (rows : List Row) (row : Row) → rows ≡ row ∷ [] → IsFirstRow root commit to v row → AreCounted (store root (shows v)) commit to rows 0
first_count rows row alone first = first_counted rows row first.view alone first.path first.read first.entry

pub commit_good : {root : Elements} {commit : List ℕ} {v : View} → CanListRows root commit v → HasCommit root commit v
commit_good {root = root} {commit = commit} {v = v} can = record {
  good = (faultless (store root (shows v)) 0 (order (store root (shows v)) commit) can.whole _ (inl refl)).1;
}

-- ---- one row more

module _ {root : Elements} {commit : List ℕ} {to : Elements} {v : View} {rows rows' : List Row} {i : ℕ} (low : i < length rows) where
  pub next_listed : AreListed (store root (shows v)) commit to rows i → Expands root i v rows rows' → AreListed (store root (shows v)) commit to rows' (i + 1)
  next_listed listed ex = by_entry ex.row.entry refl ex.is
    where
      by_entry : (e : Entry) → ex.row.entry ≡ e → ExpandsEntry root ex.row.path e v rows rows' → AreListed (store root (shows v)) commit to rows' (i + 1)
      by_entry (entries.Dir tree meta) is s = dir_listed rows i ex.row low ex.at listed tree meta s.view is s.read s.grown
      by_entry (entries.File d) is same = subst (λ (l : List Row). AreListed (store root (shows v)) commit to l (i + 1)) (sym same) (file_listed rows i ex.row low ex.at listed d is)

  pub next_counted : first_fault (store root (shows v)) commit ≡ None → AreListed (store root (shows v)) commit to rows i → AreCounted (store root (shows v)) commit to rows i → Expands root i v rows rows' → AreCounted (store root (shows v)) commit to rows' (i + 1)
  next_counted whole listed counted ex = by_entry ex.row.entry refl ex.is
    where
      by_entry : (e : Entry) → ex.row.entry ≡ e → ExpandsEntry root ex.row.path e v rows rows' → AreCounted (store root (shows v)) commit to rows' (i + 1)
      by_entry (entries.Dir tree meta) is s =
          let r = listed.each ex.row (row_in rows i ex.row low ex.at) in
          dir_counted rows i ex.row low ex.at counted tree meta is whole s.view s.read (omega (arith, ap (λ (l : Elements). length l) r.at, length-append r.rest to)) s.grown
      by_entry (entries.File d) is same = subst (λ (l : List Row). AreCounted (store root (shows v)) commit to l (i + 1)) (sym same) (file_counted rows i ex.row low ex.at counted d is)

pub next_low : {root : Elements} {v : View} {rows rows' : List Row} {i : ℕ} → i < length rows → Expands root i v rows rows' → i + 1 ≤ length rows'
next_low {root = root} {v = v} {rows = rows} {rows' = rows'} {i = i} low ex = by_entry ex.row.entry ex.is
  where
    by_entry : (e : Entry) → ExpandsEntry root ex.row.path e v rows rows' → i + 1 ≤ length rows'
    by_entry (entries.Dir tree meta) s = omega (arith, low, ap (λ (l : List Row). length l) s.grown, length-append rows (rows_in ex.row.path s.view))
    by_entry (entries.File d) same = omega (arith, low, ap (λ (l : List Row). length l) same)

-- ---- there is room

pub no_room : (len listed files dirs more others : ℕ) → leb (len + (files + dirs)) 200000 ≡ false → len ≡ listed → more ≡ files → others ≡ dirs → listed + (more + others) ≤ 200000 → ⊥
no_room len listed files dirs more others full is one two room = absurd (omega (arith, leb-false (len + (files + dirs)) 200000 full, is, one, two, room))

-- where it may be
pub can_expand : {root : Elements} {commit : List ℕ} {to : Elements} {v : View} {rows : List Row} {i : ℕ} → i < length rows → first_fault (store root (shows v)) commit ≡ None → AreCounted (store root (shows v)) commit to rows i → CanExpand root i rows v
can_expand {rows = rows} {i = i} low whole counted = record {
  dir = λ path tree meta at. record {
    tree = record { good = tree_good rows i _ low at counted tree meta refl whole };
    room = λ view read. has_room rows i _ low at counted tree meta refl whole view read;
  };
}
