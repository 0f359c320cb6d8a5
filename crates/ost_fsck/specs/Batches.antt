-- Small objects that are read one after another, and then checked by the digests of all of them.
use Rattle.std.specs.Prelude.{◌≡◌, ℕ, List, [], ◌∷◌, ◌++◌, count_by, flat_map, slice_get, Bool, true, false, Option, Some, None}
use Rattle.std.specs.List.{AllZip}
use Rattle.std.specs.Str.{bytes_eq}
use Rattle.fp_host.specs.Paths.{Elements}
use Rattle.fp_host.specs.View.{View}
use Rattle.fp_host.specs.Outcome.{Spot, holds, shows}
use Rattle.fp_base.specs.declared.object.ObjKind.{ObjKind}
use Rattle.fp_base.specs.declared.object.ObjKind.TheVariants as kinds
use Rattle.ost_model.specs.Contents.{header}
use Rattle.ost_model.specs.Objects.{object_path}
use Rattle.par_digest.specs.Digests.{item_digest}
use Rattle.par_digest.specs.declared.limits.TheConstants.{MOST_SMALL_BYTES}
use Rattle.par_digest.specs.declared.item.Item.{Item}
use Rattle.ost_fsck.specs.declared.judging.Seen.{Seen}
use Rattle.ost_fsck.specs.declared.report.Finding.{Finding}
use Rattle.ost_fsck.specs.declared.row.Row.{Row}
use Rattle.ost_fsck.specs.declared.row.Row.TheVariants as rows
use Rattle.ost_fsck.specs.Judging.{is_named, bad_unless, IsNameOf, LooksAt, Looks}

-- The maximum size in bytes of an object that is hashed with others
abbrev pub small_most : ℕ
small_most = MOST_SMALL_BYTES

-- The bytes before an object's content in the input to SHA-256: the header of a file, none for a
-- metadata object
abbrev pub head_of : ObjKind → ℕ → List ℕ
head_of kinds.File mode = header mode
head_of kinds.Commit mode = []
head_of kinds.DirTree mode = []
head_of kinds.DirMeta mode = []

-- The digest of the item decides the check: the node is the object of this kind and of the item's
-- digest, and of no other digest
pub record IsItemOf (kind : ObjKind) (spot : Spot) (item : Item) : Type 0 where
  pub decides : (d : List ℕ) → is_named d kind spot ≡ bytes_eq (item_digest item) d

-- The digest of the item, if there is one, decides the check of the node
abbrev pub IsItemIn : ObjKind → Spot → Option Item → Type 0
IsItemIn kind spot None = Unit {0}
IsItemIn kind spot (Some item) = IsItemOf kind spot item

-- The digest of the item, if there is one, decides the check of the path in the present view
abbrev pub IsItemAt : ObjKind → Elements → View → Option Item → Type 0
IsItemAt kind path v item = IsItemIn kind (shows v path) item

-- The digest of the item, if there is one, decides the check of a file with these permission bits
-- and these bytes
abbrev pub IsFileItem : ObjKind → ℕ → List ℕ → Option Item → Type 0
IsFileItem kind mode bytes item = (id : ℕ) → IsItemIn kind (holds id mode bytes) item

-- The digest of the item, if there is one, decides the check of the path if it is a file with these
-- permission bits
abbrev pub IsFileItemAt : ObjKind → ℕ → Elements → View → Option Item → Type 0
IsFileItemAt kind mode path v item =
    (id : ℕ) (bytes : List ℕ) → shows v path ≡ holds id mode bytes → IsItemAt kind path v item

-- Items were appended
pub record Grows (before after : List Item) : Type 0 where
  pub more : List Item
  pub same : after ≡ before ++ more

-- The digest of the item at the index `number` decides the check of the path
pub record IsAsked (path : Elements) (d : List ℕ) (kind : ObjKind) (v : View) (items : List Item)
    (number : ℕ) : Type 0 where
  pub item : Item
  pub there : slice_get items number ≡ Some item
  pub decides : is_named d kind (shows v path) ≡ bytes_eq (item_digest item) d

-- The row is the result of reading the path of an object
abbrev pub IsRowAt : Elements → List ℕ → ObjKind → View → List Item → Row → Type 0
IsRowAt root d kind v items (rows.Answer seen) = LooksAt root d kind v seen.is_object seen.finding
IsRowAt root d kind v items (rows.Question named of number) =
    (named ≡ d) × (of ≡ kind) × IsAsked (object_path root d kind) d kind v items number

-- The row is the result of reading a path
abbrev pub IsRow : Elements → Elements → View → List Item → Row → Type 0
IsRow root path v items (rows.Answer seen) = Looks root path v seen.is_object seen.finding
IsRow root path v items (rows.Question d kind number) =
    IsNameOf root path (Some (d, kind)) × IsAsked path d kind v items number

-- The rows are the results of reading these paths
abbrev pub AreRows : Elements → List Elements → View → List Item → List Row → Type 0
AreRows root paths v items read = AllZip (λ path row. IsRow root path v items row) paths read

-- ---- checking by digests

-- Tests whether there is a digest that equals `d`
abbrev pub is_same : Option (List ℕ) → List ℕ → Bool
is_same None d = false
is_same (Some got) d = bytes_eq got d

-- Tests whether the digest at the index `number` equals `d`
abbrev pub is_at : List (List ℕ) → ℕ → List ℕ → Bool
is_at digests number d = is_same (slice_get digests number) d

-- The result of checking a path, by the digests of the items
abbrev pub seen_by : List (List ℕ) → Row → Seen
seen_by digests (rows.Answer seen) = seen
seen_by digests (rows.Question d kind number) =
    record { is_object = true; finding = bad_unless (is_at digests number d) d kind }

-- The finding as a list, which is empty if there is none
abbrev pub finding_list : Option Finding → List Finding
finding_list None = []
finding_list (Some finding) = finding ∷ []

-- The findings of rows, by the digests of the items
abbrev pub findings_by : List (List ℕ) → List Row → List Finding
findings_by digests read = flat_map (λ row. finding_list (seen_by digests row).finding) read

-- The number of rows that are the path of an object
abbrev pub objects_by : List (List ℕ) → List Row → ℕ
objects_by digests read = count_by (λ row. (seen_by digests row).is_object) read

-- Each of these paths was checked, and its finding was appended
pub record ChecksMore (root : Elements) (paths : List Elements) (v : View)
    (found found' : List Finding) (objects : ℕ) : Type 0 where
  pub digests : List (List ℕ)
  pub read : List Row
  pub looks : AllZip (λ path row. Looks root path v (seen_by digests row).is_object
      (seen_by digests row).finding) paths read
  pub findings : found' ≡ found ++ findings_by digests read
  pub count : objects ≡ objects_by digests read
