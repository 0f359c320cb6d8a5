-- Some places and some files of refs, by computing.
use Rattle.std.proofs.Common.{◌≡◌, ℕ, List, [], ◌∷◌, ◌++◌, codes, refl}
use Rattle.fp_host.specs.Paths.{path_text}
use Rattle.fp_host.specs.Outcome.{gone, folder, holds, points}
use Rattle.fp_name.specs.Hex.{hex, unhex, bytes_of}
use Rattle.fp_name.specs.Refs.{ref_with}
use Rattle.fp_name.specs.declared.kind.RefKind.TheVariants.{App, Runtime}
use Rattle.fp_small.specs.Places.{repo}
use Rattle.ost_refs.specs.Places.{place_path}
use Rattle.ost_refs.specs.Files.{ref_bytes, ref_file, ref_in}
use Rattle.ost_refs.specs.declared.place.RefPlace.TheVariants.{Head, Remote}
use Rattle.ost_refs.specs.declared.place.RefFile.TheVariants.{Digest, Absent, Bad}

a_head : path_text (place_path repo (Head (ref_with App (codes "org.x.Editor") (codes "x86_64") (codes "stable")))) ≡ codes "repo/refs/heads/app/org.x.Editor/x86_64/stable"
a_head = refl

a_remote : path_text (place_path repo (Remote (codes "lab") (ref_with Runtime (codes "org.x.Platform") (codes "x86_64") (codes "1")))) ≡ codes "repo/refs/remotes/lab/runtime/org.x.Platform/x86_64/1"
a_remote = refl

digits : List ℕ
digits = codes "0123456789abcdef0123456789abcdef0123456789abcdef0123456789abcdef"

bytes : List ℕ
bytes = 1 ∷ 35 ∷ 69 ∷ 103 ∷ 137 ∷ 171 ∷ 205 ∷ 239 ∷ 1 ∷ 35 ∷ 69 ∷ 103 ∷ 137 ∷ 171 ∷ 205 ∷ 239 ∷ 1 ∷ 35 ∷ 69 ∷ 103 ∷ 137 ∷ 171 ∷ 205 ∷ 239 ∷ 1 ∷ 35 ∷ 69 ∷ 103 ∷ 137 ∷ 171 ∷ 205 ∷ 239 ∷ []

a_file : ref_file (digits ++ 10 ∷ []) ≡ Digest bytes
unfolding unhex bytes_of digits bytes
a_file = refl

is_written : ref_bytes bytes ≡ digits ++ 10 ∷ []
unfolding hex digits bytes
is_written = refl

no_newline : ref_file digits ≡ Bad
unfolding unhex bytes_of digits
no_newline = refl

two_newlines : ref_file (digits ++ 10 ∷ 10 ∷ []) ≡ Bad
unfolding unhex bytes_of digits
two_newlines = refl

a_digit_less : ref_file (codes "123456789abcdef0123456789abcdef0123456789abcdef0123456789abcdef\n") ≡ Bad
unfolding unhex bytes_of
a_digit_less = refl

a_capital : ref_file (codes "0123456789abcdef0123456789abcdef0123456789abcdef0123456789abcdeF\n") ≡ Bad
unfolding unhex bytes_of
a_capital = refl

empty : ref_in (holds 0 420 []) ≡ Bad
empty = refl

nothing : ref_in gone ≡ Absent
nothing = refl

a_folder : ref_in folder ≡ Bad
a_folder = refl

a_link : ref_in (points (codes "x")) ≡ Bad
a_link = refl
