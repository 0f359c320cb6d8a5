-- Images of disks, and the choices among those that a crash may leave.
use Rattle.std.specs.Prelude.{◌≡◌, ◌≢◌, ◌≤◌, ◌==◌, ◌&&◌, ℕ, zero, suc, Bool, true, false, leb, List, [], ◌∷◌, length, map, slice_index_or, Option, Some, None, if◌then◌else◌}
use Rattle.std.specs.List.{list_all}
use Rattle.std.specs.Ordering.{nat_cmp, is_lt}
use Rattle.std.specs.Cmp.Lexicographic.{slice_cmp}
use Rattle.fp_host.specs.Paths.{Elements, Slot, absent, dir, file, link, is_link_text, path_eq, path_text, at}
use Rattle.fp_host.specs.View.{View, Inode}
use Rattle.fp_host.specs.Outcome.{Disk, spot_of, Leaves}
use Rattle.fp_host.specs.declared.host.Entry.{Entry}
use Rattle.fp_host.specs.declared.limits.TheConstants.{PERMISSION_BITS}
use Rattle.fp_memhost.specs.declared.image.FileRow.{FileRow}
use Rattle.fp_memhost.specs.declared.image.Image.{Image}
use Rattle.fp_memhost.specs.declared.image.Choice.{Choice}
use Rattle.fp_memhost.specs.Names.{slot_of}

-- The first listed entry of a path; absent if it isn't listed
abbrev pub listed_slot : List (Elements × Entry) → Elements → Slot
listed_slot [] q = absent
listed_slot (x ∷ xs) q = if path_eq q x.0 then slot_of (Some x.1) else listed_slot xs q

-- The entry of each path by a list; the root is a directory, listed or not
abbrev pub slots_of : List (Elements × Entry) → Elements → Slot
slots_of names [] = dir
slots_of names (x ∷ up) = listed_slot names (x ∷ up)

-- The first listed file with an id
abbrev pub rows_of : List FileRow → ℕ → Option Inode
rows_of [] id = None
rows_of (f ∷ fs) id =
    if id == f.id then Some (record { mode = f.mode; bytes = f.bytes }) else rows_of fs id

-- A listed name and its entry, as the view remembers them
abbrev pub put_of : Elements × Entry → Elements × Slot
put_of x = (x.0, slot_of (Some x.1))

-- The view of an image that is opened again: a name counts if each of its ancestors is a directory,
-- there are no earlier entries, nothing is printed, and the listed entries are remembered.
abbrev pub opened : Image → View
opened image = record {
  names = at (slots_of image.names);
  files = rows_of image.files;
  earlier = λ q. [];
  dirty = λ id. false;
  printed = [];
  stood = map put_of image.names;
}

-- The disk whose content is the image
abbrev pub disk_of : Image → Disk
disk_of image q = spot_of (rows_of image.files) (at (slots_of image.names) q)

-- A valid image: each file that an entry refers to is listed, the texts of symlinks are valid, and
-- modes are at most 0o7777
pub record IsImage (image : Image) : Type 0 where
  pub known : (p : Elements) (id : ℕ) → slots_of image.names p ≡ file id
      → rows_of image.files id ≢ None
  pub linked : (p : Elements) (text : List ℕ) → slots_of image.names p ≡ link text
      → is_link_text text ≡ true
  pub bits : (id : ℕ) (f : Inode) → rows_of image.files id ≡ Some f → f.mode ≤ PERMISSION_BITS

-- The number of the entry that is chosen for a name; 0 if the name isn't listed
abbrev pub number_for : List (Elements × ℕ) → Elements → ℕ
number_for [] q = 0
number_for (x ∷ xs) q = if path_eq q x.0 then x.1 else number_for xs q

-- The bytes that are chosen for a file; nothing if the file isn't listed
abbrev pub bytes_for : List (ℕ × List ℕ) → ℕ → Option (List ℕ)
bytes_for [] id = None
bytes_for (x ∷ xs) id = if id == x.0 then Some x.1 else bytes_for xs id

-- The entry with a number: 0 is the present one, and n the n-th earlier one, the oldest first
abbrev pub numbered : Slot → List Slot → ℕ → Slot
numbered present earlier zero = present
numbered present earlier (suc n) = slice_index_or earlier n absent

-- The entry that is chosen for a name
abbrev pub chosen_slot : View → List (Elements × ℕ) → Elements → Slot
chosen_slot v names q = numbered (v.names q) (v.earlier q) (number_for names q)

-- A file with the chosen bytes, or with its own if none are chosen
abbrev pub with_bytes : Option Inode → Option (List ℕ) → Option Inode
with_bytes None chosen = None
with_bytes (Some f) None = Some f
with_bytes (Some f) (Some bytes) = Some (record f { bytes = bytes })

-- A file with the bytes that are chosen for it
abbrev pub chosen_row : View → List (ℕ × List ℕ) → ℕ → Option Inode
chosen_row v files id = with_bytes (v.files id) (bytes_for files id)

-- Tests whether a listed name has an entry with its number
abbrev pub has_entry : View → Elements × ℕ → Bool
has_entry v x = leb x.1 (length (v.earlier x.0))

-- Tests whether a listed file was created since the last sync
abbrev pub is_open_file : View → ℕ × List ℕ → Bool
is_open_file v x = v.dirty x.0

-- Tests whether each listed name has an entry with its number, and each listed file was created
-- since the last sync
abbrev pub can_choose : View → Choice → Bool
can_choose v choice = list_all (has_entry v) choice.names && list_all (is_open_file v) choice.files

-- The image has the chosen entries and the chosen bytes, a crash may leave it, and it is valid
pub record IsChosen (v : View) (choice : Choice) (image : Image) : Type 0 where
  pub names : (q : Elements) → slots_of image.names q ≡ chosen_slot v choice.names q
  pub files : (id : ℕ) → rows_of image.files id ≡ chosen_row v choice.files id
  pub leaves : Leaves v (disk_of image)
  pub good : IsImage image

-- The result is the chosen image of a view, or `None` if there is no view or the choice isn't
-- possible
abbrev pub GivesImage : Option View → Choice → Option Image → Type 0
GivesImage None choice given = given ≡ None
GivesImage (Some v) choice None = can_choose v choice ≡ false
GivesImage (Some v) choice (Some image) = (can_choose v choice ≡ true) × IsChosen v choice image

-- Tests whether the text of a path is less than that of another
abbrev pub is_after : Elements × ℕ → Elements × ℕ → Bool
is_after x y = is_lt (slice_cmp nat_cmp (path_text x.0) (path_text y.0))

-- Tests whether the texts of paths ascend strictly
abbrev pub texts_ascend : List (Elements × ℕ) → Bool
texts_ascend [] = true
texts_ascend (x ∷ xs) = list_all (is_after x) xs && texts_ascend xs

-- The names with earlier entries, which a crash may bring back, ascending, each with the number of
-- these entries
pub record AreChoices (v : View) (names : List (Elements × ℕ)) : Type 0 where
  pub numbers : (q : Elements) → number_for names q ≡ length (v.earlier q)
  pub some : list_all (λ x. leb 1 x.1) names ≡ true
  pub ascending : texts_ascend names ≡ true

-- The choices of a view; none if there is no view
abbrev pub ChoicesOf : Option View → List (Elements × ℕ) → Type 0
ChoicesOf None names = names ≡ []
ChoicesOf (Some v) names = AreChoices v names
