-- The contents of refs' files.
use Rattle.std.specs.Prelude.{◌≡◌, ℕ, List, [], ◌∷◌, ◌++◌, take, drop, Option, Some, None, if◌then◌else◌}
use Rattle.std.specs.Str.{bytes_eq}
use Rattle.fp_host.specs.Paths.{Elements}
use Rattle.fp_host.specs.View.{View}
use Rattle.fp_host.specs.Outcome.{Spot, gone, folder, holds, points, shows}
use Rattle.fp_name.specs.Hex.{hex, unhex}
use Rattle.fp_name.specs.declared.limits.TheConstants.{DIGEST_DIGITS}
use Rattle.ost_refs.specs.declared.place.RefFile.{RefFile}
use Rattle.ost_refs.specs.declared.place.RefFile.TheVariants.{Digest, Absent, Bad}

-- The content of a ref's file: 64 hexadecimal digits and a newline
abbrev pub ref_bytes : List ℕ → List ℕ
ref_bytes digest = hex digest ++ 10 ∷ []

-- The digest if there is one, and otherwise `Bad`
abbrev pub said : Option (List ℕ) → RefFile
said None = Bad
said (Some digest) = Digest digest

-- The content of a ref's file with these bytes
abbrev pub ref_file : List ℕ → RefFile
ref_file bytes = if bytes_eq (drop DIGEST_DIGITS bytes) (10 ∷ [])
    then said (unhex (take DIGEST_DIGITS bytes)) else Bad

-- The content of a node at a ref's place
abbrev pub ref_in : Spot → RefFile
ref_in gone = Absent
ref_in folder = Bad
ref_in (points text) = Bad
ref_in (holds id mode bytes) = ref_file bytes

-- The content of the node at the path in the present view was read
pub record ReadsRef (p : Elements) (v : View) (ref : RefFile) : Type 0 where
  pub is : ref ≡ ref_in (shows v p)
