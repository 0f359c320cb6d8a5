-- The file `metadata` of a commit without a fault.
use Rattle.std.proofs.Common.{◌≡◌, ℕ, ◌*◌, List, [], ◌++◌, length, Bool, true, leb, Option, Some, None, refl, sym, ◌∙◌, ap, subst}
use Rattle.std.specs.Prelude.{option_and_then, unwrap_or, if◌then◌else◌}
use Rattle.std.proofs.lemmas.Bool.{and_parts}
use Rattle.fp_base.specs.declared.object.ObjKind.{ObjKind}
use Rattle.fp_base.specs.declared.object.ObjKind.TheVariants as kinds
use Rattle.fp_host.specs.Paths.{Elements}
use Rattle.fp_host.specs.Outcome.{Spot, gone, folder, holds, points, Disk}
use Rattle.ost_model.specs.Objects.{Have, Fault, object_at, object_path, store}
use Rattle.ost_model.specs.Order.{Place, Agree, order, first_fault}
use Rattle.ost_model.specs.Look.{Found, nothing, directory, file_at, look, FileReached, file_in}
use Rattle.ost_model.specs.Standing.{Stands, expected, is_metadata, metadata_name, deploy_name}
use Rattle.ost_model.proofs.Looked.{file_reached, look_same, no_fault_on_path}
use Rattle.ost_model.proofs.Places.{first_same}
use Rattle.fl_installed.specs.Deployed.{short_file}
use Rattle.fl_installed.specs.Files.{unless_faulty, metadata_digest, short_content, metadata_file, metadata_in}
use Rattle.fl_installed.specs.Standing.{IsRead, StandingIsRead, StandingIsStored, MetadataIsLocal}

clean_digest : (have : Have) (commit : List ℕ) → first_fault have commit ≡ None → metadata_digest have commit ≡ file_in (look have commit metadata_name)
unfolding metadata_digest
clean_digest have commit none = ap (λ (fault : Option (Place × Fault)). unless_faulty fault (file_in (look have commit metadata_name))) (no_fault_on_path have commit none metadata_name)

abbrev content_of : Have → Option (List ℕ) → Option (List ℕ)
content_of have digest = option_and_then (λ d. short_content (have d kinds.File)) digest

clean_file : (have : Have) (commit : List ℕ) → first_fault have commit ≡ None → metadata_file have commit ≡ content_of have (file_in (look have commit metadata_name))
unfolding metadata_file
clean_file have commit none = ap (content_of have) (clean_digest have commit none)

-- ---- it depends on the objects of the order

module _ (i j : Have) (commit : List ℕ) (none : first_fault i commit ≡ None) (agree : Agree i j (order i commit)) where
  same_object : (d : List ℕ) → FileReached i commit d → j d kinds.File ≡ i d kinds.File
  same_object d r =
      subst (λ (e : List ℕ). j e kinds.File ≡ i e kinds.File) r.digest_is
      (subst (λ (k : ObjKind). j r.place.digest k ≡ i r.place.digest k) r.kind_is (agree r.place r.within))

  same_content : (f : Found) → look i commit metadata_name ≡ f → content_of j (file_in f) ≡ content_of i (file_in f)
  same_content nothing at = refl
  same_content (directory e) at = refl
  same_content (file_at d) at = ap short_content (same_object d (file_reached i commit none metadata_name d at))

  same_file : metadata_file j commit ≡ metadata_file i commit
  same_file =
      clean_file j commit (first_same i j commit agree ∙ none)
      ∙ ap (λ (f : Found). content_of j (file_in f)) (look_same i j commit none agree metadata_name)
      ∙ same_content (look i commit metadata_name) refl
      ∙ sym (clean_file i commit none)

pub metadata_is_local : MetadataIsLocal
metadata_is_local i j commit none agree = same_file i j commit none agree

-- ---- where the commit stands

not_deploy : metadata_name ≡ deploy_name → ⊥
not_deploy is = cc is

module _ (reads : List ℕ → Bool) (root : Elements) (disk : Disk) (commit : List ℕ) (dir : Elements) (s : Stands reads root disk commit dir) where
  abbrev have : Have
  have = store root disk

  abbrev Told : Option (List ℕ) → Spot → Type 0
  Told file spot = IsRead reads (unwrap_or file []) spot

  by_spot : (spot : Spot) → is_metadata reads spot ≡ true → Told (short_content (object_at kinds.File spot)) spot
  by_spot gone is = absurd (cc is)
  by_spot folder is = absurd (cc is)
  by_spot (points text) is = absurd (cc is)
  by_spot (holds id mode bytes) is =
      let parts = and_parts (leb (length bytes) (1024 * 1024)) (reads bytes) is in
      subst (λ (o : Option (List ℕ)). Told o (holds id mode bytes)) (sym (ap (λ (b : Bool). if b then Some bytes else None) parts.0))
      (record { id = id; mode = mode; is = refl; read = parts.1 })

  by_found : (f : Found) → is_metadata reads (expected root disk f) ≡ true → Told (content_of have (file_in f)) (expected root disk f)
  by_found nothing is = absurd (cc is)
  by_found (directory e) is = absurd (cc is)
  by_found (file_at d) is = by_spot (disk (object_path root d kinds.File)) is

  stands_read : IsRead reads (metadata_in have commit) (disk (metadata_name ++ dir))
  stands_read =
      subst (λ (spot : Spot). IsRead reads (metadata_in have commit) spot) (sym (s.paths metadata_name not_deploy))
      (subst (λ (o : Option (List ℕ)). Told o (expected root disk (look have commit metadata_name))) (sym (clean_file have commit s.whole))
      (by_found (look have commit metadata_name) s.described))

  -- ---- its bytes are those of the object

  same_by_spot : (spot : Spot) → is_metadata reads spot ≡ true → short_file spot ≡ short_content (object_at kinds.File spot)
  same_by_spot gone is = absurd (cc is)
  same_by_spot folder is = absurd (cc is)
  same_by_spot (points text) is = absurd (cc is)
  same_by_spot (holds id mode bytes) is = refl

  same_by_found : (f : Found) → is_metadata reads (expected root disk f) ≡ true → short_file (expected root disk f) ≡ content_of have (file_in f)
  same_by_found nothing is = absurd (cc is)
  same_by_found (directory e) is = absurd (cc is)
  same_by_found (file_at d) is = same_by_spot (disk (object_path root d kinds.File)) is

  stands_stored : short_file (disk (metadata_name ++ dir)) ≡ metadata_file have commit
  stands_stored =
      ap short_file (s.paths metadata_name not_deploy)
      ∙ same_by_found (look have commit metadata_name) s.described
      ∙ sym (clean_file have commit s.whole)

pub standing_is_stored : StandingIsStored
standing_is_stored reads root disk commit dir s = stands_stored reads root disk commit dir s

pub standing_is_read : StandingIsRead
standing_is_read reads root disk commit dir s = stands_read reads root disk commit dir s
