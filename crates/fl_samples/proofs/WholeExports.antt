-- The exported files of the small installation are those of its application.
use Rattle.std.proofs.Common.{◌≡◌, inl, inr, List, [], ◌∷◌, ◌++◌, Bool, true, false, not, ◌||◌, refl, sym, ◌∙◌, ap, subst, Contains}
use Rattle.std.specs.Prelude.{codes}
use Rattle.std.specs.List.{AllByRecursion, list_all, list_any}
use Rattle.std.specs.Str.{bytes_eq, is_utf8, chars}
use lib.Utf8.{encode}
use Rattle.std.proofs.lemmas.Slice.Eq.{bytes_eq-Decides}
use Rattle.std.proofs.lemmas.Bool.{or_cases}
use Rattle.fp_base.proofs.Booleans.{true_false}
use Rattle.fp_base.proofs.Lists.{all_has as of_contained}
use Rattle.fp_host.specs.Paths.{Elements, path_eq, IsAbove}
use Rattle.fp_host.specs.Outcome.{Spot, gone, folder, holds, points, IsLeafSpot}
use Rattle.fp_host.proofs.Separate.{path_decides}
use Rattle.fp_keyfile.specs.KeyFile.{file_of, text_of, with_group, with_pair}
use Rattle.fp_keyfile.specs.Lines.{line_says}
use Rattle.fp_name.specs.Hex.{hex}
use Rattle.fp_small.specs.Clear.{IsWithin}
use Rattle.fp_small.specs.Places.{repo}
use Rattle.ost_model.specs.Objects.{store}
use Rattle.ost_model.proofs.Members.{in_contains}
use Rattle.dep_states.specs.Zones.{outward}
use Rattle.dep_states.proofs.Deployed.{outward_append}
use Rattle.dep_states.proofs.Rows.{each_at, head_of}
use Rattle.fl_export.specs.declared.rows.ExportRow.{ExportRow}
use Rattle.fl_export.specs.Exported.{exported}
use Rattle.fl_export.specs.Keys.{is_locale_end}
use Rattle.fl_export.specs.Placed.{exports, place_of, places_of, IsExported, ExportsAre}
use Rattle.fl_export.specs.Rewritten.{rewritten}
use Rattle.fl_samples.specs.Exports.{rows}
use Rattle.fl_samples.specs.Image.{whole_rows, whole_disk, whole_state}
use Rattle.fl_samples.proofs.Rows.{all_pass, some_passes}

pub rows_are : exported (store repo whole_disk) whole_state ≡ rows
unfolding exported rewritten is_locale_end file_of text_of line_says with_pair with_group hex is_utf8 chars encode
rows_are = refl

-- ---- each stands

each_stands : AllByRecursion (λ (row : ExportRow). IsExported row.what (whole_disk (place_of row))) rows
each_stands = ((48, refl), (refl, tt))

-- ---- and no other

abbrev is_leaf : Spot → Bool
is_leaf gone = false
is_leaf folder = false
is_leaf (holds id mode bytes) = true
is_leaf (points text) = true

leaf_is : (spot : Spot) → IsLeafSpot spot → is_leaf spot ≡ true
leaf_is gone leaf = absurd leaf
leaf_is folder leaf = absurd leaf
leaf_is (holds id mode bytes) leaf = refl
leaf_is (points text) leaf = refl

-- a file or a link at or below `exports` is at one of the places
abbrev may_export : Elements → Spot → Bool
may_export q spot = not (is_leaf spot) || (not (bytes_eq (head_of (outward q)) (codes "exports")) || list_any (path_eq q) (places_of rows))

all_may : list_all (λ r. may_export r.0 r.1) whole_rows ≡ true
all_may = refl

above_rest : (q : Elements) → IsAbove exports q → (rest : Elements) × (q ≡ rest ++ exports)
above_rest [] above = absurd above
above_rest (x ∷ up) (inl same) = (x ∷ [], ap (λ (p : Elements). x ∷ p) (sym same))
above_rest (x ∷ up) (inr more) = let r = above_rest up more in (x ∷ r.0, ap (λ (p : Elements). x ∷ p) r.1)

within_top : (q : Elements) → IsWithin exports q → head_of (outward q) ≡ codes "exports"
within_top q (inl same) = ap (λ (p : Elements). head_of (outward p)) same
within_top q (inr above) = let r = above_rest q above in ap (λ (p : Elements). head_of (outward p)) r.1 ∙ ap head_of (outward_append r.0 exports [])

may_at : (q : Elements) → may_export q (whole_disk q) ≡ true
may_at = each_at (λ p spot. may_export p spot ≡ true) (λ p. refl) whole_rows (all_pass (λ r. may_export r.0 r.1) (λ r. may_export r.0 r.1 ≡ true) (λ r t. t) whole_rows all_may)

only : (q : Elements) → IsWithin exports q → (Contains (places_of rows) q → ⊥) → IsLeafSpot (whole_disk q) → ⊥
only q within apart leaf = elim (or_cases (not (is_leaf (whole_disk q))) _ (may_at q)) [
  | inl none ↦ true_false (leaf_is (whole_disk q) leaf) none
  | inr more ↦ elim (or_cases (not (bytes_eq (head_of (outward q)) (codes "exports"))) _ more) [
    | inl other ↦ true_false ((bytes_eq-Decides (head_of (outward q)) (codes "exports")).1 (within_top q within)) other
    | inr any ↦
        let found = some_passes (path_eq q) (places_of rows) any in
        apart (subst (Contains (places_of rows)) (sym ((path_decides q found.0).0 found.2)) (in_contains (places_of rows) found.0 found.1))
  ]
]

pub whole_placed : ExportsAre (exported (store repo whole_disk) whole_state) whole_disk
whole_placed = subst (λ (rs : List ExportRow). ExportsAre rs whole_disk) (sym rows_are)
    (record { each = of_contained (λ (row : ExportRow). IsExported row.what (whole_disk (place_of row))) rows each_stands; only = only })
