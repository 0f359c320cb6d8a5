-- That the tests on an image's members are those on what counts.
use Rattle.std.proofs.Common.{◌≡◌, ◌≢◌, inl, inr, ℕ, List, [], ◌∷◌, Bool, true, eqb, Option, Some, None, refl, sym, ◌∙◌, ap}
use Rattle.std.specs.Prelude.{is_some, leb}
use Rattle.std.specs.List.{list_all}
use Rattle.std.proofs.lemmas.Bool.{cases_Bool, cond-false, and_parts, and_from, eqb-true, leb-true, le-leb, false≢true}
use Rattle.fp_host.specs.Paths.{Elements, Slot, absent, dir, file, link, path_eq}
use Rattle.fp_host.specs.View.{Inode}
use Rattle.fp_host.proofs.Separate.{path_decides}
use Rattle.fp_host.specs.declared.host.Entry.{Entry}
use Rattle.fp_memhost.specs.declared.image.FileRow.{FileRow}
use Rattle.fp_memhost.specs.declared.image.Image.{Image}
use Rattle.fp_memhost.specs.Names.{slot_of}
use Rattle.fp_memhost.specs.Images.{listed_slot, slots_of, rows_of, IsImage}
use Rattle.fp_memhost.specs.Soundness.{is_good_slot, is_good_row, are_good_names, are_good_rows}

-- what passes at each member passes at each path where something is listed
listed_good : (t : Elements → Bool) (xs : List (Elements × Entry)) (q : Elements) → list_all (λ (x : Elements × Entry). t x.0) xs ≡ true → listed_slot xs q ≢ absent → t q ≡ true
listed_good t [] q all some = absurd (some refl)
listed_good t (x ∷ xs) q all some =
    let parts = and_parts (t x.0) (list_all (λ (x : Elements × Entry). t x.0) xs) all in
    elim (cases_Bool (path_eq q x.0)) [
      | inl same ↦ ap t ((path_decides q x.0).0 same) ∙ parts.0
      | inr f ↦ listed_good t xs q parts.1 (λ none. some (cond-false (path_eq q x.0) (slot_of (Some x.1)) (listed_slot xs q) f ∙ none))
    ]

rows_good : (t : ℕ → Bool) (xs : List FileRow) (id : ℕ) → list_all (λ (f : FileRow). t f.id) xs ≡ true → rows_of xs id ≢ None → t id ≡ true
rows_good t [] id all some = absurd (some refl)
rows_good t (f ∷ fs) id all some =
    let parts = and_parts (t f.id) (list_all (λ (f : FileRow). t f.id) fs) all in
    elim (cases_Bool (eqb id f.id)) [
      | inl same ↦ ap t (eqb-true id f.id same) ∙ parts.0
      | inr no_match ↦ rows_good t fs id parts.1 (λ none. some (cond-false (eqb id f.id) (Some (record { mode = f.mode; bytes = f.bytes })) (rows_of fs id) no_match ∙ none))
    ]

all_from : {A : Type 0} (t : A → Bool) (xs : List A) → ((x : A) → t x ≡ true) → list_all t xs ≡ true
all_from t [] each = refl
all_from t (x ∷ xs) each = and_from (t x) (list_all t xs) (each x) (all_from t xs each)

some_row : (row : Option Inode) → is_some row ≡ true → row ≢ None
some_row None t is = false≢true t
some_row (Some f) t is = cc is

row_some : (row : Option Inode) → row ≢ None → is_some row ≡ true
row_some None some = absurd (some refl)
row_some (Some f) some = refl

good_at : (image : Image) → are_good_names image image.names ≡ true → (q : Elements) (e : Slot) → slots_of image.names q ≡ e → e ≢ absent → is_good_slot (rows_of image.files) e ≡ true
good_at image all [] e is some = ap (is_good_slot (rows_of image.files)) (sym is)
good_at image all (x ∷ up) e is some =
    ap (is_good_slot (rows_of image.files)) (sym is) ∙ listed_good (λ (q : Elements). is_good_slot (rows_of image.files) (slots_of image.names q)) image.names (x ∷ up) all (λ none. some (sym is ∙ none))

good_row : (image : Image) → are_good_rows image image.files ≡ true → (id : ℕ) (f : Inode) → rows_of image.files id ≡ Some f → leb f.mode 4095 ≡ true
good_row image all id f is = ap is_good_row (sym is) ∙ rows_good (λ id. is_good_row (rows_of image.files id)) image.files id all (λ none. cc (sym is ∙ none))

pub is_image : (image : Image) → are_good_names image image.names ≡ true → are_good_rows image image.files ≡ true → IsImage image
is_image image names rows = record {
  known = λ p id is. some_row (rows_of image.files id) (good_at image names p (file id) is (λ e. cc));
  linked = λ p text is. good_at image names p (link text) is (λ e. cc);
  bits = λ id f is. leb-true f.mode 4095 (good_row image rows id f is);
}

pub image_is : (image : Image) → IsImage image → (are_good_names image image.names ≡ true) × (are_good_rows image image.files ≡ true)
image_is image good = (
  all_from (λ (x : Elements × Entry). is_good_slot (rows_of image.files) (slots_of image.names x.0)) image.names (λ x. by_slot x.0 (slots_of image.names x.0) refl),
  all_from (λ (f : FileRow). is_good_row (rows_of image.files f.id)) image.files (λ f. by_row f.id (rows_of image.files f.id) refl),
)
  where
    by_slot : (q : Elements) (e : Slot) → slots_of image.names q ≡ e → is_good_slot (rows_of image.files) e ≡ true
    by_slot q absent is = refl
    by_slot q dir is = refl
    by_slot q (file id) is = row_some (rows_of image.files id) (good.known q id is)
    by_slot q (link text) is = good.linked q text is

    by_row : (id : ℕ) (row : Option Inode) → rows_of image.files id ≡ row → is_good_row row ≡ true
    by_row id None is = refl
    by_row id (Some f) is = le-leb f.mode 4095 (good.bits id f is)
