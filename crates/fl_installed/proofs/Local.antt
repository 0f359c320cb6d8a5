-- What is said of rows depends on the files of their commits, and is gathered row by row.
use Rattle.std.proofs.Common.{◌≡◌, ◌<◌, ◌+◌, ℕ, List, [], ◌∷◌, ◌++◌, length, get_or, take, drop, Bool, false, cond, Option, Some, None, refl, sym, ◌∙◌, ap, append-nil}
use Rattle.std.specs.Prelude.{find, option_map, option_to_list, if◌then◌else◌}
use Rattle.std.proofs.lemmas.Grind.{flat_map-append}
use Rattle.std.proofs.lemmas.List.{map-append}
use Rattle.fp_base.proofs.Lists.{drop_read, take_read}
use Rattle.fl_extension.specs.declared.point.Point.{Point}
use Rattle.fl_meta.specs.declared.meta.Meta.{Meta}
use Rattle.fp_name.specs.Refs.{Ref}
use Rattle.fp_small.specs.declared.state.RefRow.{RefRow}
use Rattle.ost_model.specs.Objects.{Have}
use Rattle.fl_installed.specs.Metadata.{runtime_named, points_in}
use Rattle.fl_installed.specs.Users.{is_name, names_it, first_user, named_meta, meta_at, installed_metas, points_at, installed_points, SaySame}
use Rattle.fp_name.specs.Pins.{is_app}
use Rattle.fl_installed.specs.Standing.{UserIsLocal, MetasAreLocal, PointsAreLocal}

found_same : (i j : Have) (runtime : Ref) (rows : List RefRow) → SaySame i j rows → find (names_it j runtime) rows ≡ find (names_it i runtime) rows
found_same i j runtime [] same = refl
found_same i j runtime (row ∷ rows) same =
    ap (λ (bytes : List ℕ). cond (is_name runtime (runtime_named row.name bytes)) (Some row) (find (names_it j runtime) rows)) same.0
    ∙ ap (λ (r : Option RefRow). cond (names_it i runtime row) (Some row) r) (found_same i j runtime rows same.1)

pub user_is_local : UserIsLocal
user_is_local i j runtime rows same = ap (λ (r : Option RefRow). option_map (λ row. row.name) r) (found_same i j runtime rows same)

pub metas_are_local : MetasAreLocal
metas_are_local i j [] same = refl
metas_are_local i j (row ∷ rows) same =
    ap (λ (bytes : List ℕ). option_to_list (if is_app row.name then named_meta row.name bytes else None) ++ installed_metas j rows) same.0
    ∙ ap (λ ms. option_to_list (meta_at i row) ++ ms) (metas_are_local i j rows same.1)

pub points_are_local : PointsAreLocal
points_are_local i j [] same = refl
points_are_local i j (row ∷ rows) same =
    ap (λ (bytes : List ℕ). (row.name, points_in row.name bytes) ∷ installed_points j rows) same.0
    ∙ ap (λ ps. points_at i row ∷ ps) (points_are_local i j rows same.1)

-- ---- rows in turn

module _ (have : Have) (runtime : Ref) (rows : List RefRow) (i : ℕ) where
  -- the row at hand doesn't name it
  pub user_later : (row : RefRow) → i < length rows → row ≡ get_or rows i row → false ≡ names_it have runtime row
      → first_user have runtime rows ≡ first_user have runtime (drop i rows) → first_user have runtime rows ≡ first_user have runtime (drop (i + 1) rows)
  user_later row within is names so_far =
      so_far ∙ ap (first_user have runtime) (drop_read rows i row within is)
      ∙ ap (λ (b : Bool). option_map (λ (r : RefRow). r.name) (cond b (Some row) (find (names_it have runtime) (drop (i + 1) rows)))) (sym names)

module _ (have : Have) (rows : List RefRow) (i : ℕ) (row : RefRow) (within : i < length rows) (is : row ≡ get_or rows i row) where
  -- the list goes on by what the row says
  pub metas_next : (metas more : List (Ref × Meta)) (found : Option (Ref × Meta)) → metas ≡ installed_metas have (take i rows) → found ≡ meta_at have row
      → more ≡ metas ++ option_to_list found → more ≡ installed_metas have (take (i + 1) rows)
  metas_next metas more found so_far told grown =
      grown
      ∙ ap (λ (ms : List (Ref × Meta)). ms ++ option_to_list found) so_far
      ∙ ap (λ (f : Option (Ref × Meta)). installed_metas have (take i rows) ++ option_to_list f) told
      ∙ ap (λ (ms : List (Ref × Meta)). installed_metas have (take i rows) ++ ms) (sym (append-nil (option_to_list (meta_at have row))))
      ∙ sym (flat_map-append (λ (r : RefRow). option_to_list (meta_at have r)) (take i rows) (row ∷ []))
      ∙ ap (installed_metas have) (sym (take_read rows i row within is))

  pub points_next : (points more : List (Ref × List Point)) (found : Ref × List Point) → points ≡ installed_points have (take i rows) → found ≡ points_at have row
      → more ≡ points ++ found ∷ [] → more ≡ installed_points have (take (i + 1) rows)
  points_next points more found so_far told grown =
      grown
      ∙ ap (λ (ps : List (Ref × List Point)). ps ++ found ∷ []) so_far
      ∙ ap (λ (f : Ref × List Point). installed_points have (take i rows) ++ f ∷ []) told
      ∙ sym (map-append (points_at have) (take i rows) (row ∷ []))
      ∙ ap (installed_points have) (sym (take_read rows i row within is))
