-- The validity of an image, as a test of each of its names and files.
use Rattle.std.specs.Prelude.{ℕ, Bool, true, leb, List, Option, Some, None, is_some}
use Rattle.std.specs.List.{list_all}
use Rattle.fp_host.specs.Paths.{Elements, Slot, absent, dir, file, link, is_link_text}
use Rattle.fp_host.specs.View.{Inode}
use Rattle.fp_host.specs.declared.host.Entry.{Entry}
use Rattle.fp_host.specs.declared.limits.TheConstants.{PERMISSION_BITS}
use Rattle.fp_memhost.specs.declared.image.FileRow.{FileRow}
use Rattle.fp_memhost.specs.declared.image.Image.{Image}
use Rattle.fp_memhost.specs.Images.{slots_of, rows_of}

-- The mode and bytes of a listed file
abbrev pub row_in : Option FileRow → Option Inode
row_in None = None
row_in (Some f) = Some (record { mode = f.mode; bytes = f.bytes })

-- Tests whether an entry is valid: a file is listed, and a symlink's text is valid
abbrev pub is_good_slot : (ℕ → Option Inode) → Slot → Bool
is_good_slot rows absent = true
is_good_slot rows dir = true
is_good_slot rows (file id) = is_some (rows id)
is_good_slot rows (link text) = is_link_text text

-- Tests whether the mode of a file is at most 0o7777
abbrev pub is_good_row : Option Inode → Bool
is_good_row None = true
is_good_row (Some f) = leb f.mode PERMISSION_BITS

-- Tests whether the entries of the listed names are valid in the image
abbrev pub are_good_names : Image → List (Elements × Entry) → Bool
are_good_names image = list_all (λ x. is_good_slot (rows_of image.files) (slots_of image.names x.0))

-- Tests whether the modes of the listed files are at most 0o7777
abbrev pub are_good_rows : Image → List FileRow → Bool
are_good_rows image = list_all (λ f. is_good_row (rows_of image.files f.id))
