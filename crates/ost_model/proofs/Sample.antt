-- A small commit with its true digests: a file `a` that is empty, and a directory `d` with nothing in it. All is closed by computing.
use Rattle.std.proofs.Common.{◌≡◌, ℕ, List, [], ◌∷◌, Option, Some, None, refl}
use Rattle.std.specs.Prelude.{codes, if◌then◌else◌}
use Rattle.std.specs.Str.{bytes_eq, is_utf8, chars}
use lib.Utf8.{encode}
use Rattle.fp_base.specs.declared.object.ObjKind.{ObjKind}
use Rattle.fp_base.specs.declared.object.ObjKind.TheVariants as kinds
use Rattle.sha2.specs.Sha256.{sha256, digest_bytes, hash_after, compress, rounds, schedule, first_words}
use Rattle.ost_model.specs.declared.object.Object.{Object}
use Rattle.ost_model.specs.declared.object.Object.TheVariants as objects
use Rattle.ost_model.specs.Contents.{meta_digest, file_digest, header}
use Rattle.ost_model.specs.Objects.{Have, missing, name_fault}
use Rattle.ost_model.specs.Order.{Place, order, first_fault, first_walk_fault}
use Rattle.ost_model.specs.Look.{nothing, directory, file_at, look, look_places, look_fault}

-- the commit
abbrev pub commit_bytes : List ℕ
commit_bytes = 0 ∷ 0 ∷ 0 ∷ 0 ∷ 0 ∷ 0 ∷ 0 ∷ 0 ∷ 0 ∷ 0 ∷ 0 ∷ 0 ∷ 0 ∷ 0 ∷ 0 ∷ 0 ∷ 187 ∷ 151 ∷ 62 ∷ 229 ∷ 40 ∷ 220 ∷ 60 ∷ 129 ∷ 220 ∷ 130 ∷ 239 ∷ 79 ∷ 195 ∷ 76 ∷ 218 ∷ 232 ∷ 31 ∷ 94 ∷ 40 ∷ 223 ∷ 88 ∷ 255 ∷ 6 ∷ 166 ∷ 89 ∷ 198 ∷ 225 ∷ 213 ∷ 230 ∷ 110 ∷ 218 ∷ 12 ∷ 68 ∷ 106 ∷ 14 ∷ 241 ∷ 27 ∷ 124 ∷ 193 ∷ 103 ∷ 243 ∷ 182 ∷ 3 ∷ 229 ∷ 133 ∷ 199 ∷ 238 ∷ 238 ∷ 182 ∷ 117 ∷ 250 ∷ 164 ∷ 18 ∷ 213 ∷ 236 ∷ 115 ∷ 246 ∷ 41 ∷ 136 ∷ 235 ∷ 11 ∷ 108 ∷ 84 ∷ 136 ∷ 48 ∷ 2 ∷ 1 ∷ 0 ∷ 0 ∷ 0 ∷ []

abbrev pub commit : List ℕ
commit = 209 ∷ 97 ∷ 186 ∷ 122 ∷ 101 ∷ 39 ∷ 156 ∷ 29 ∷ 124 ∷ 25 ∷ 74 ∷ 124 ∷ 219 ∷ 85 ∷ 224 ∷ 8 ∷ 168 ∷ 146 ∷ 107 ∷ 104 ∷ 56 ∷ 132 ∷ 140 ∷ 74 ∷ 208 ∷ 98 ∷ 49 ∷ 157 ∷ 143 ∷ 108 ∷ 126 ∷ 202 ∷ []

-- the root
abbrev pub tree_bytes : List ℕ
tree_bytes = 97 ∷ 0 ∷ 204 ∷ 112 ∷ 13 ∷ 70 ∷ 244 ∷ 7 ∷ 198 ∷ 197 ∷ 171 ∷ 45 ∷ 93 ∷ 222 ∷ 71 ∷ 67 ∷ 102 ∷ 169 ∷ 40 ∷ 183 ∷ 57 ∷ 130 ∷ 119 ∷ 230 ∷ 17 ∷ 98 ∷ 231 ∷ 248 ∷ 236 ∷ 6 ∷ 244 ∷ 105 ∷ 240 ∷ 126 ∷ 2 ∷ 35 ∷ 100 ∷ 0 ∷ 110 ∷ 52 ∷ 11 ∷ 156 ∷ 255 ∷ 179 ∷ 122 ∷ 152 ∷ 156 ∷ 165 ∷ 68 ∷ 230 ∷ 187 ∷ 120 ∷ 10 ∷ 44 ∷ 120 ∷ 144 ∷ 29 ∷ 63 ∷ 179 ∷ 55 ∷ 56 ∷ 118 ∷ 133 ∷ 17 ∷ 163 ∷ 6 ∷ 23 ∷ 175 ∷ 160 ∷ 29 ∷ 68 ∷ 106 ∷ 14 ∷ 241 ∷ 27 ∷ 124 ∷ 193 ∷ 103 ∷ 243 ∷ 182 ∷ 3 ∷ 229 ∷ 133 ∷ 199 ∷ 238 ∷ 238 ∷ 182 ∷ 117 ∷ 250 ∷ 164 ∷ 18 ∷ 213 ∷ 236 ∷ 115 ∷ 246 ∷ 41 ∷ 136 ∷ 235 ∷ 11 ∷ 108 ∷ 84 ∷ 136 ∷ 34 ∷ 2 ∷ 68 ∷ 36 ∷ []

abbrev pub tree : List ℕ
tree = 187 ∷ 151 ∷ 62 ∷ 229 ∷ 40 ∷ 220 ∷ 60 ∷ 129 ∷ 220 ∷ 130 ∷ 239 ∷ 79 ∷ 195 ∷ 76 ∷ 218 ∷ 232 ∷ 31 ∷ 94 ∷ 40 ∷ 223 ∷ 88 ∷ 255 ∷ 6 ∷ 166 ∷ 89 ∷ 198 ∷ 225 ∷ 213 ∷ 230 ∷ 110 ∷ 218 ∷ 12 ∷ []

-- of the mode 040755
abbrev pub meta_bytes : List ℕ
meta_bytes = 0 ∷ 0 ∷ 0 ∷ 0 ∷ 0 ∷ 0 ∷ 0 ∷ 0 ∷ 0 ∷ 0 ∷ 65 ∷ 237 ∷ []

abbrev pub meta : List ℕ
meta = 68 ∷ 106 ∷ 14 ∷ 241 ∷ 27 ∷ 124 ∷ 193 ∷ 103 ∷ 243 ∷ 182 ∷ 3 ∷ 229 ∷ 133 ∷ 199 ∷ 238 ∷ 238 ∷ 182 ∷ 117 ∷ 250 ∷ 164 ∷ 18 ∷ 213 ∷ 236 ∷ 115 ∷ 246 ∷ 41 ∷ 136 ∷ 235 ∷ 11 ∷ 108 ∷ 84 ∷ 136 ∷ []

-- the digest of a directory with nothing in it
abbrev pub empty_tree : List ℕ
empty_tree = 110 ∷ 52 ∷ 11 ∷ 156 ∷ 255 ∷ 179 ∷ 122 ∷ 152 ∷ 156 ∷ 165 ∷ 68 ∷ 230 ∷ 187 ∷ 120 ∷ 10 ∷ 44 ∷ 120 ∷ 144 ∷ 29 ∷ 63 ∷ 179 ∷ 55 ∷ 56 ∷ 118 ∷ 133 ∷ 17 ∷ 163 ∷ 6 ∷ 23 ∷ 175 ∷ 160 ∷ 29 ∷ []

-- and of an empty file whose permission bits are 0644
abbrev pub empty_file : List ℕ
empty_file = 204 ∷ 112 ∷ 13 ∷ 70 ∷ 244 ∷ 7 ∷ 198 ∷ 197 ∷ 171 ∷ 45 ∷ 93 ∷ 222 ∷ 71 ∷ 67 ∷ 102 ∷ 169 ∷ 40 ∷ 183 ∷ 57 ∷ 130 ∷ 119 ∷ 230 ∷ 17 ∷ 98 ∷ 231 ∷ 248 ∷ 236 ∷ 6 ∷ 244 ∷ 105 ∷ 240 ∷ 126 ∷ []

-- these objects, with this one for the file
abbrev pub with_file : Option Object → Have
with_file o d kinds.Commit = if bytes_eq d commit then Some (objects.Meta commit_bytes) else None
with_file o d kinds.DirTree = if bytes_eq d tree then Some (objects.Meta tree_bytes) else (if bytes_eq d empty_tree then Some (objects.Meta (0 ∷ [])) else None)
with_file o d kinds.DirMeta = if bytes_eq d meta then Some (objects.Meta meta_bytes) else None
with_file o d kinds.File = if bytes_eq d empty_file then o else None

abbrev pub have : Have
have = with_file (Some (objects.File 0x1A4 []))

abbrev pub place : List ℕ → ObjKind → ℕ → Place
place d kind depth = record { digest = d; kind = kind; depth = depth }

pub the_order : order have commit
    ≡ place commit kinds.Commit 0 ∷ place tree kinds.DirTree 0 ∷ place meta kinds.DirMeta 0 ∷ place empty_file kinds.File 0
    ∷ place empty_tree kinds.DirTree 1 ∷ place meta kinds.DirMeta 1 ∷ []
unfolding is_utf8 chars encode
the_order = refl

pub no_fault : first_fault have commit ≡ None
unfolding meta_digest file_digest header sha256 digest_bytes hash_after compress rounds schedule first_words is_utf8 chars encode
no_fault = refl

-- the file is the first fault of the order, and none of a walk that reads metadata objects alone
without_the_file : first_fault (with_file None) commit ≡ Some (place empty_file kinds.File 0, missing)
unfolding meta_digest file_digest header sha256 digest_bytes hash_after compress rounds schedule first_words is_utf8 chars encode
without_the_file = refl

metadata_alone : first_walk_fault (with_file None) commit ≡ None
unfolding meta_digest file_digest header sha256 digest_bytes hash_after compress rounds schedule first_words is_utf8 chars encode
metadata_alone = refl

-- a commit that isn't there
no_commit : first_fault have [] ≡ Some (place [] kinds.Commit 0, missing)
no_commit = refl

-- ---- paths

the_root : look have commit [] ≡ directory (record { name = []; tree = tree; meta = meta })
unfolding is_utf8 chars encode
the_root = refl

the_file : look have commit (codes "a" ∷ []) ≡ file_at empty_file
unfolding is_utf8 chars encode
the_file = refl

the_directory : look have commit (codes "d" ∷ []) ≡ directory (record { name = codes "d"; tree = empty_tree; meta = meta })
unfolding is_utf8 chars encode
the_directory = refl

no_name : look have commit (codes "b" ∷ []) ≡ nothing
unfolding is_utf8 chars encode
no_name = refl

below_a_file : look have commit (codes "b" ∷ codes "a" ∷ []) ≡ nothing
unfolding is_utf8 chars encode
below_a_file = refl

-- what is read on a path: neither dirmetas nor files
read_on_the_path : look_places have commit (codes "b" ∷ codes "d" ∷ []) ≡ place commit kinds.Commit 0 ∷ place tree kinds.DirTree 0 ∷ place empty_tree kinds.DirTree 1 ∷ []
unfolding is_utf8 chars encode
read_on_the_path = refl

-- where a name isn't found, nothing further is read
read_past_a_name : look_places have commit (codes "b" ∷ codes "x" ∷ []) ≡ place commit kinds.Commit 0 ∷ place tree kinds.DirTree 0 ∷ []
unfolding is_utf8 chars encode
read_past_a_name = refl

path_without_fault : look_fault (with_file None) commit (codes "a" ∷ []) ≡ None
unfolding meta_digest sha256 digest_bytes hash_after compress rounds schedule first_words is_utf8 chars encode
path_without_fault = refl

abbrev without_the_tree : Have
without_the_tree d kinds.Commit = have d kinds.Commit
without_the_tree d kinds.DirTree = None
without_the_tree d kinds.DirMeta = None
without_the_tree d kinds.File = None

path_with_fault : look_fault without_the_tree commit (codes "a" ∷ []) ≡ Some (place tree kinds.DirTree 0, missing)
unfolding meta_digest sha256 digest_bytes hash_after compress rounds schedule first_words is_utf8 chars encode
path_with_fault = refl

-- the dirmeta is what its digest says
pub meta_named : name_fault meta kinds.DirMeta (Some (objects.Meta meta_bytes)) ≡ None
unfolding meta_digest sha256 digest_bytes hash_after compress rounds schedule first_words
meta_named = refl
