-- The generated trees of runtimes and applications.
use Rattle.std.specs.Prelude.{ℕ, ◌<◌, ◌^◌, ◌+◌, ◌*◌, ◌%◌, List, [], ◌∷◌, ◌++◌, map, codes, decimal, nat_lt, if◌then◌else◌}
use Rattle.std.specs.List.{range_with_len}
use Rattle.fp_host.specs.Paths.{Elements}
use Rattle.fp_name.specs.Refs.{Ref, ref_with}
use Rattle.fp_name.specs.declared.kind.RefKind.TheVariants as kinds
use Rattle.ost_commit.specs.declared.row.TreeRow.{TreeRow}
use Rattle.ost_commit.specs.declared.row.TreeRow.TheVariants as row
use Rattle.fp_small.specs.declared.limits.TheConstants.{FILE_MODE}
use Rattle.fl_gen.specs.declared.limits.TheConstants.{RUNTIMES, LIBRARIES, OWN_FILES, SHARED_FILES, CHANGED_FILES, FILE_BYTES, BYTE_END}
use Rattle.fl_gen.specs.declared.series.Series.{Series}

-- The values of f at 0, 1 and so on, n of them
unfoldable pub each_of : {A : Type 0} → (ℕ → A) → ℕ → List A
each_of f n = map f (range_with_len 0 n)

-- This many bytes that count up from the start, modulo BYTE_END
abbrev pub counted_bytes : ℕ → ℕ → List ℕ
counted_bytes start count = each_of (λ i. (start + i) % BYTE_END) count

-- The bytes of a file other than `metadata`, by its start
abbrev pub made_bytes : ℕ → List ℕ
made_bytes start = counted_bytes start FILE_BYTES

-- The word and the number, without a space between them
abbrev pub numbered : List ℕ → ℕ → List ℕ
numbered word number = word ++ decimal number

-- The path of this name at the root
abbrev pub at_root : List ℕ → Elements
at_root name = name ∷ []

-- The path of this name in the directory `files`
abbrev pub in_files : List ℕ → Elements
in_files name = name ∷ (codes "files" ∷ [])

-- The permission bits of each file
abbrev pub file_mode : ℕ
file_mode = FILE_MODE

-- The start of the file with this number in a series: the value of its first byte, before the
-- remainder by BYTE_END is taken. The first CHANGED_FILES files differ between the versions.
abbrev pub start_at : ℕ → ℕ → ℕ → ℕ → ℕ
start_at base step version number =
    base + step * number + (if nat_lt number CHANGED_FILES then version else 0)

-- The start of the file with this number in the series
abbrev pub start_in : Series → ℕ → ℕ
start_in series = start_at series.base series.step series.version

-- The numbers of the series are small enough that no sum overflows
pub record IsSmall (series : Series) : Type 0 where
  pub base : series.base < 2 ^ 16
  pub step : series.step < 2 ^ 8
  pub version : series.version < 2 ^ 8

-- The file in `files` whose name is the word and the number. Its bytes are made from `start
-- number`.
abbrev pub file_row : List ℕ → (ℕ → ℕ) → ℕ → TreeRow
file_row word start number =
    row.File (in_files (numbered word number)) file_mode (made_bytes (start number))

-- The file `metadata` with this text
abbrev pub metadata_row : List ℕ → TreeRow
metadata_row text = row.File (at_root (codes "metadata")) file_mode text

-- The metadata of the runtime r
abbrev pub runtime_metadata : ℕ → List ℕ
runtime_metadata r = codes "[Runtime]\nname=org.gen.Run" ++ (decimal r ++ codes "\n")

-- The metadata of the application k, which names one of the runtimes
abbrev pub app_metadata : ℕ → List ℕ
app_metadata k = codes "[Application]\nname=org.gen.App"
    ++ (decimal k ++ (codes "\nruntime=org.gen.Run"
    ++ (decimal (k % RUNTIMES) ++ codes "/x86_64/1\n")))

-- The rows of the runtime r: `metadata` and lib0, lib1 and so on
abbrev pub runtime_rows : ℕ → ℕ → List TreeRow
runtime_rows version r = metadata_row (runtime_metadata r)
    ∷ each_of (file_row (codes "lib") (start_at (11 * r) 5 version)) LIBRARIES

-- The link `files/link` to f0
abbrev pub link_row : TreeRow
link_row = row.Link (in_files (codes "link")) (codes "f0")

-- The rows of the application k: `metadata`, f0, f1 and so on, then shared0, shared1 and so on,
-- which are the same in each application, and a link
abbrev pub app_rows : ℕ → ℕ → List TreeRow
app_rows version k =
    metadata_row (app_metadata k)
    ∷ (each_of (file_row (codes "f") (start_at (7 * k) 3 version)) OWN_FILES
    ++ (each_of (file_row (codes "shared") (start_at 0 1 0)) SHARED_FILES ++ link_row ∷ []))

-- The ref of the runtime r
abbrev pub runtime_ref : ℕ → Ref
runtime_ref r =
    ref_with kinds.Runtime (numbered (codes "org.gen.Run") r) (codes "x86_64") (codes "1")

-- The ref of the application k
abbrev pub app_ref : ℕ → Ref
app_ref k = ref_with kinds.App (numbered (codes "org.gen.App") k) (codes "x86_64") (codes "1")

-- ---- what a store offers

-- A ref, and the rows of its tree
pub record Ware : Type 0 where
  pub name : Ref
  pub rows : List TreeRow

-- The ref of the runtime r and its tree in this version
abbrev pub runtime_ware : ℕ → ℕ → Ware
runtime_ware version r = record { name = runtime_ref r; rows = runtime_rows version r }

-- The ref of the application k and its tree in this version
abbrev pub app_ware : ℕ → ℕ → Ware
app_ware version k = record { name = app_ref k; rows = app_rows version k }

-- The refs of a store and their trees: all runtimes, and this number of applications
abbrev pub wares : ℕ → ℕ → List Ware
wares version apps = each_of (runtime_ware version) RUNTIMES ++ each_of (app_ware version) apps
