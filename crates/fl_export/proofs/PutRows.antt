-- Rows that are put at their places.
use Rattle.std.proofs.Common.{◌≡◌, ◌≢◌, ◌⊎◌, ◌≤◌, ◌<◌, ◌+◌, inl, inr, ℕ, List, [], ◌∷◌, ◌++◌, length, take, drop, get_or, codes, refl, sym, ◌∙◌, ap, subst, arith, Contains}
use Rattle.std.proofs.lemmas.List.{append_cancel_right, take-append-drop, take_all}
use Rattle.std.proofs.lemmas.List.Elements.{Contains-append_cases, Contains-append_left, Contains-get_or}
use Rattle.fp_base.proofs.Lists.{in_none, in_first, in_cases}
use Rattle.fp_base.proofs.Texts.{bytes_eq-false}
use Rattle.fp_host.specs.Paths.{Elements, Slot, absent, dir, IsAbove}
use Rattle.fp_host.specs.View.{View, IsTree}
use Rattle.fp_host.specs.Outcome.{shows}
use Rattle.fp_host.proofs.Above.{above_longer}
use Rattle.fp_small.specs.Places.{repo, tmp, new_name}
use Rattle.fp_small.specs.Clear.{IsWithin, CanEmpty}
use Rattle.fp_small.specs.Folders.{ancestors, IsFree}
use Rattle.fp_small.specs.Replace.{folders_of}
use Rattle.fp_small.proofs.Replacement.{ancestors_above}
use Rattle.ost_store.proofs.Lists.{in_one}
use Rattle.ost_store.proofs.Staying.{same_shows}
use Rattle.fp_small.proofs.Sharing.{shares_refl, shares_on, shares_to}
use Rattle.fp_small.proofs.Within.{within_on, within_from}
use Rattle.fl_export.specs.declared.rows.ExportRow.{ExportRow}
use Rattle.fl_export.specs.Texts.{desktop_path, icon_path}
use Rattle.fl_export.specs.Placed.{exports, place_of, IsExported}
use Rattle.fl_export.specs.Steps.{PutName, it_name, gone_name, folder_name, work_name, PutsAt, WasPut, CanPut, HasRows, PutsRows, HasForm, AreRows, WereThere, WereAllPut, CanPutRows}
use Rattle.fl_export.proofs.Alter.{alters_none, alters_on, alters_to}
use Rattle.fl_export.proofs.Spared.{apart_from_work, apart_from_repo}
use Rattle.fl_export.proofs.Putting.{above_within, root_above}
use Rattle.fl_export.proofs.Swept.{took_cases, earlier_in, took_here}

-- ---- places

pub place_within : (row : ExportRow) → IsWithin exports (place_of row)
place_within row = within_from exports row.path

-- a place below the folder
pub place_above : (path : Elements) → path ≢ [] → IsAbove exports (path ++ exports)
place_above [] some = absurd (some refl)
place_above (x ∷ up) some = elim (within_from exports up) [ inl is ↦ inl (sym is) | inr above ↦ inr above ]

some_place : (path : Elements) → path ++ exports ≢ []
some_place [] is = cc is
some_place (x ∷ up) is = cc is

pub path_back : (p q : Elements) → p ++ exports ≡ q ++ exports → p ≡ q
path_back p q is = append_cancel_right p q exports is

applications_no_icons : codes "applications" ≢ codes "icons"
applications_no_icons = bytes_eq-false (codes "applications") (codes "icons") refl

second_of : {x y a b : List ℕ} {up down : Elements} → x ∷ (y ∷ up) ≡ a ∷ (b ∷ down) → y ≡ b
second_of h = cc h

-- no place is above another one
desktop_no_icon : (file size icon : List ℕ) → IsAbove (desktop_path file ++ exports) (icon_path size icon ++ exports) → ⊥
desktop_no_icon file size icon (inl e) = omega (arith, ap length e)
desktop_no_icon file size icon (inr (inl e)) = omega (arith, ap length e)
desktop_no_icon file size icon (inr (inr (inl e))) = applications_no_icons (second_of e)
desktop_no_icon file size icon (inr (inr (inr (inl e)))) = omega (arith, ap length e)
desktop_no_icon file size icon (inr (inr (inr (inr (inl e))))) = omega (arith, ap length e)
desktop_no_icon file size icon (inr (inr (inr (inr (inr (inl e)))))) = omega (arith, ap length e)
desktop_no_icon file size icon (inr (inr (inr (inr (inr (inr (inl e))))))) = omega (arith, ap length e)
desktop_no_icon file size icon (inr (inr (inr (inr (inr (inr (inr none))))))) = none

abbrev At : Elements → Elements → Type 0
At p q = IsAbove (p ++ exports) (q ++ exports)

longer : (p q : Elements) → At p q → length (p ++ exports) < length (q ++ exports)
longer p q above = above_longer (p ++ exports) (q ++ exports) above

pub apart : (p q : Elements) → HasForm p → HasForm q → At p q → ⊥
apart p q (inl a) (inl b) above = omega (arith, longer (desktop_path a.0) (desktop_path b.0) (subst (At (desktop_path a.0)) b.1 (subst (λ (x : Elements). At x q) a.1 above)))
apart p q (inl a) (inr b) above = desktop_no_icon a.0 b.0 b.1 (subst (At (desktop_path a.0)) b.2 (subst (λ (x : Elements). At x q) a.1 above))
apart p q (inr a) (inl b) above = omega (arith, longer (icon_path a.0 a.1) (desktop_path b.0) (subst (At (icon_path a.0 a.1)) b.1 (subst (λ (x : Elements). At x q) a.2 above)))
apart p q (inr a) (inr b) above = omega (arith, longer (icon_path a.0 a.1) (icon_path b.0 b.1) (subst (At (icon_path a.0 a.1)) b.2 (subst (λ (x : Elements). At x q) a.2 above)))

pub some_path : (p : Elements) → HasForm p → p ≢ []
some_path p (inl a) none = cc (sym a.1 ∙ none)
some_path p (inr a) none = cc (sym a.2 ∙ none)

pub short_place : (p : Elements) → HasForm p → length (p ++ exports) ≤ 128
short_place p (inl a) = subst (λ (x : Elements). length (x ++ exports) ≤ 128) (sym a.1) (omega arith)
short_place p (inr a) = subst (λ (x : Elements). length (x ++ exports) ≤ 128) (sym a.2) (omega arith)

-- ---- one row

pub puts_none : {rows : List ExportRow} {v : View} → PutsRows rows v v
puts_none = record { alters = alters_none; idle = λ has. refl }

pub puts_same : {rows : List ExportRow} {v w : View} → w ≡ v → PutsRows rows v w
puts_same {rows = rows} {v = v} same = subst (PutsRows rows v) (sym same) puts_none

module _ (row : ExportRow) where
  abbrev one : List ExportRow
  one = row ∷ []

  has_one : {v : View} → IsExported row.what (shows v (place_of row)) → HasRows one v
  has_one {v = v} there = record { each = λ r has. subst (λ (x : ExportRow). IsExported x.what (shows v (place_of x))) (sym (in_one row r has)) there }

  pub stands_already : {u w : View} → w ≡ u → IsExported row.what (shows u (place_of row)) → WereThere one u w
  stands_already {u = u} same there = subst (WereThere one u) (sym same) (record { there = has_one there; work = λ q above. refl; shares = shares_refl })

  module _ {place : Elements} (at : place ≡ place_of row) where
    pub puts_row : {u w : View} → (IsExported row.what (shows u (place_of row)) → ⊥) → PutsAt place row.what u w → PutsRows one u w
    puts_row {u = u} {w = w} off puts = record {
      alters = alters_to (λ q spot h. record { row = row; among = in_first row []; is = h }) (λ q e h. record { row = row; among = in_first row []; is = h }) (subst (λ (p : Elements). PutsAt p row.what u w) at puts);
      idle = λ has. absurd (off (has.each row (in_first row [])));
    }

    pub were_put : {u w : View} → WasPut place row.what u w → WereThere one u w
    were_put {u = u} {w = w} put =
        let p = subst (λ (q : Elements). WasPut q row.what u w) at put in
        record { there = has_one p.there; work = p.work (place_within row); shares = shares_to (λ q is. (row, in_first row [], is)) p.shares }

    pub can_put : {v : View} → IsTree v → CanPutRows one v → CanPut place row.what v
    can_put {v = v} tree can = subst (λ (p : Elements). CanPut p row.what v) (sym at) (record {
      clear = record { no_root = some_place row.path; below = record { short = λ q above. deep q (within_on exports (place_of row) q (place_within row) (inr above)) } };
      folders = record { free = free };
      within = place_within row;
      text = can.texts row (in_first row []);
    })
      where
        deep : (q : Elements) → IsWithin exports q → (v.names q ≡ absent) ⊎ (length q ≤ 128)
        deep q (inl is) = inr (subst (λ (x : Elements). length x ≤ 128) (sym is) (omega arith))
        deep q (inr above) = can.deep.short q above

        free : (q : Elements) → Contains (folders_of (place_of row)) q → IsFree v q
        free q has = elim (Contains-append_cases (ancestors (place_of row)) (repo ∷ (tmp ∷ [])) q has) [
          | inl above ↦ can.folders row (in_first row []) q (ancestors_above (place_of row) q above)
          | inr work ↦ elim (in_cases repo (tmp ∷ []) q work) [
            | inl is ↦ subst (IsFree v) (sym is) can.work.0
            | inr more ↦ subst (IsFree v) (sym (in_one tmp q more)) can.work.1
          ]
        ]

-- ---- one row more

module _ (rows : List ExportRow) (are : AreRows rows) where
  -- no name but its own place is changed at a place
  pub other_place : (row other : ExportRow) → Contains rows row → Contains rows other → (e : Slot) → PutName (place_of row) (place_of other) e → other ≡ row
  other_place row other has had e (it_name is) = are.one other row had has (path_back other.path row.path is)
  other_place row other has had e (gone_name (inl is) none) = are.one other row had has (path_back other.path row.path is)
  other_place row other has had e (gone_name (inr above) none) = absurd (apart row.path other.path (are.forms row has) (are.forms other had) above)
  other_place row other has had e (folder_name among is) = elim (Contains-append_cases (ancestors (place_of row)) (repo ∷ (tmp ∷ [])) (place_of other) among) [
    | inl above ↦ absurd (apart other.path row.path (are.forms other had) (are.forms row has) (ancestors_above (place_of row) (place_of other) above))
    | inr work ↦ elim (in_cases repo (tmp ∷ []) (place_of other) work) [
      | inl at ↦ absurd (apart_from_repo (place_of other) (place_within other) at)
      | inr more ↦ absurd (apart_from_work (place_of other) (place_within other) (inl (in_one tmp (place_of other) more)))
    ]
  ]
  other_place row other has had e (work_name k at) = absurd (apart_from_work (place_of other) (place_within other) (subst (IsWithin tmp) (sym at) (inr (inl refl))))

  module _ (i : ℕ) (row : ExportRow) (low : i < length rows) (is : row ≡ get_or rows i row) where
    listed : Contains rows row
    listed = subst (Contains rows) (sym is) (Contains-get_or rows i row low)

    took_in : (r : ExportRow) → Contains (take i rows) r → Contains rows r
    took_in r had = subst (λ (l : List ExportRow). Contains l r) (take-append-drop i rows) (Contains-append_left (take i rows) (drop i rows) r had)

    pub next_there : {u v w : View} → IsTree v → IsTree w → WereThere (take i rows) u v → PutsRows (row ∷ []) v w → WereThere (row ∷ []) v w → WereThere (take (i + 1) rows) u w
    next_there {u = u} {v = v} {w = w} tree next before step here = record {
      there = record { each = λ r has. elim (took_cases rows i row low is r has) [ inl earlier ↦ kept r earlier | inr same ↦ now r same ] };
      work = λ q above. here.work q above ∙ before.work q above;
      shares = shares_on (shares_to (λ q h. (h.0, earlier_in rows i row low h.0 h.1, h.2)) before.shares) (shares_to (λ q h. (row, took_here rows i row low is, h.2 ∙ ap place_of (in_one row h.0 h.1))) here.shares) step.alters.files;
    }
      where
        now : (r : ExportRow) → r ≡ row → IsExported r.what (shows w (place_of r))
        now r same = subst (λ (x : ExportRow). IsExported x.what (shows w (place_of x))) (sym same) (here.there.each row (in_first row []))

        kept : (r : ExportRow) → Contains (take i rows) r → IsExported r.what (shows w (place_of r))
        kept r earlier = elim (step.alters.names (place_of r)) [
          | inl same ↦ subst (IsExported r.what) (sym (same_shows tree next step.alters.files (place_of r) same)) (before.there.each r earlier)
          | inr put ↦ now r (other_place row r listed (took_in r earlier) (w.names (place_of r)) (subst (λ (x : ExportRow). PutName (place_of x) (place_of r) (w.names (place_of r))) (in_one row put.row put.among) put.is))
        ]

module _ (rows : List ExportRow) (i : ℕ) (row : ExportRow) (low : i < length rows) (is : row ≡ get_or rows i row) where
  in_rows : Contains rows row
  in_rows = subst (Contains rows) (sym is) (Contains-get_or rows i row low)

  widened : (r : ExportRow) → Contains (row ∷ []) r → Contains rows r
  widened r has = subst (Contains rows) (sym (in_one row r has)) in_rows

  pub puts_on : {u v w : View} → PutsRows rows u v → PutsRows (row ∷ []) v w → PutsRows rows u w
  puts_on {w = w} first step = record {
    alters = alters_on first.alters (alters_to (λ q spot h. record { row = h.row; among = widened h.row h.among; is = h.is }) (λ q e h. record { row = h.row; among = widened h.row h.among; is = h.is }) step.alters);
    idle = λ has. let same = first.idle has in step.idle (record { each = λ r h. subst (λ (x : View). IsExported r.what (shows x (place_of r))) (sym same) (has.each r (widened r h)) }) ∙ same;
  }

  -- ---- where the next row may be put

  module _ {u v : View} (can : CanPutRows rows u) (puts : PutsRows rows u v) where
    form : (r : ExportRow) → Contains rows r → HasForm r.path
    form r has = can.are.forms r has

    short_name : (r : ExportRow) → Contains rows r → (q : Elements) (e : Slot) → PutName (place_of r) q e → (e ≡ absent) ⊎ (length q ≤ 128)
    short_name r has q e (it_name at) = inr (subst (λ (x : Elements). length x ≤ 128) (sym at) (short_place r.path (form r has)))
    short_name r has q e (gone_name within none) = inl none
    short_name r has q e (folder_name among at) = inr (elim (Contains-append_cases (ancestors (place_of r)) (repo ∷ (tmp ∷ [])) q among) [
      | inl above ↦ omega (arith, above_longer q (place_of r) (ancestors_above (place_of r) q above), short_place r.path (form r has))
      | inr work ↦ elim (in_cases repo (tmp ∷ []) q work) [ inl one ↦ omega (arith, ap length one) | inr more ↦ omega (arith, ap length (in_one tmp q more)) ]
    ])
    short_name r has q e (work_name k at) = inr (omega (arith, ap length at))

    deep : CanEmpty exports v
    deep = record {
      short = λ q above. elim (puts.alters.names q) [
        | inl same ↦ elim (can.deep.short q above) [ inl none ↦ inl (same ∙ none) | inr short ↦ inr short ]
        | inr put ↦ short_name put.row put.among q (v.names q) put.is
      ];
    }

    -- a folder above a place stays one, or absent
    free_name : (r : ExportRow) → Contains rows r → (q : Elements) → IsAbove q (place_of row) → (e : Slot) → PutName (place_of r) q e → (e ≡ absent) ⊎ (e ≡ dir)
    free_name r has q above e (it_name at) = absurd (apart r.path row.path (form r has) (form row in_rows) (subst (λ (x : Elements). IsAbove x (place_of row)) at above))
    free_name r has q above e (gone_name within none) = inl none
    free_name r has q above e (folder_name among at) = inr at
    free_name r has q above e (work_name k at) = elim (above_within exports (place_of row) q (place_within row) above) [
      | inl within ↦ absurd (apart_from_work q within (subst (IsWithin tmp) (sym at) (inr (inl refl))))
      | inr root ↦ absurd (no_root (sym (root_above q root) ∙ at))
    ]
      where
        no_root : [] ≡ new_name k ∷ tmp → ⊥
        no_root e = cc e

    free : (q : Elements) → IsAbove q (place_of row) → IsFree v q
    free q above = elim (puts.alters.names q) [
      | inl same ↦ elim (can.folders row in_rows q above) [ inl none ↦ inl (same ∙ none) | inr folder ↦ inr (same ∙ folder) ]
      | inr put ↦ free_name put.row put.among q above (v.names q) put.is
    ]

    -- and so do the folders of work
    work_name_free : (r : ExportRow) (q : Elements) → (q ≡ repo) ⊎ (q ≡ tmp) → (e : Slot) → PutName (place_of r) q e → (e ≡ absent) ⊎ (e ≡ dir)
    work_name_free r q at e (it_name same) = absurd (off at same)
      where
        off : (q ≡ repo) ⊎ (q ≡ tmp) → q ≡ place_of r → ⊥
        off (inl a) b = apart_from_repo (place_of r) (place_within r) (sym b ∙ a)
        off (inr a) b = apart_from_work (place_of r) (place_within r) (inl (sym b ∙ a))
    work_name_free r q at e (gone_name within none) = inl none
    work_name_free r q at e (folder_name among is) = inr is
    work_name_free r q at e (work_name k same) = absurd (off at)
      where
        off : (q ≡ repo) ⊎ (q ≡ tmp) → ⊥
        off (inl a) = omega (arith, ap length (sym a ∙ same))
        off (inr a) = omega (arith, ap length (sym a ∙ same))

    work_free : (q : Elements) → (q ≡ repo) ⊎ (q ≡ tmp) → IsFree u q → IsFree v q
    work_free q at before = elim (puts.alters.names q) [
      | inl same ↦ elim before [ inl none ↦ inl (same ∙ none) | inr folder ↦ inr (same ∙ folder) ]
      | inr put ↦ work_name_free put.row q at (v.names q) put.is
    ]

    pub can_next : CanPutRows (row ∷ []) v
    can_next = record {
      are = record {
        forms = λ r has. form r (widened r has);
        one = λ r o has other same. can.are.one r o (widened r has) (widened o other) same;
      };
      texts = λ r has. can.texts r (widened r has);
      deep = deep;
      folders = λ r has q above. free q (subst (λ (x : ExportRow). IsAbove q (place_of x)) (in_one row r has) above);
      work = (work_free repo (inl refl) can.work.0, work_free tmp (inr refl) can.work.1);
    }

-- the first i of the rows were put, where they are as rows that are exported
pub record WereSomePut (rows : List ExportRow) (i : ℕ) (u w : View) : Type 0 where
  pub some : AreRows rows → WereThere (take i rows) u w

pub all_none : (rows : List ExportRow) {u w : View} → w ≡ u → WereSomePut rows 0 u w
all_none rows {u = u} same = record { some = λ are. subst (WereThere (take 0 rows) u) (sym same) (record { there = record { each = λ r has. absurd (in_none r has) }; work = λ q above. refl; shares = shares_refl }) }

pub all_next : (rows : List ExportRow) (i : ℕ) (row : ExportRow) → i < length rows → row ≡ get_or rows i row → {u v w : View} → IsTree v → IsTree w → WereSomePut rows i u v → PutsRows (row ∷ []) v w → WereThere (row ∷ []) v w → WereSomePut rows (i + 1) u w
all_next rows i row low is tree next before step here = record { some = λ are. next_there rows are i row low is tree next (before.some are) step here }

pub all_all : (rows : List ExportRow) (i : ℕ) {u w : View} → length rows ≤ i → WereSomePut rows i u w → WereAllPut rows u w
all_all rows i {u = u} {w = w} high some = record { all = λ are. subst (λ (l : List ExportRow). WereThere l u w) (take_all i rows high) (some.some are) }
