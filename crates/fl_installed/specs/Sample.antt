-- A sample installation: two commits, each with a file `metadata` alone and true digests, and four
-- refs that are deployed at them.
use Rattle.std.specs.Prelude.{ℕ, List, [], ◌∷◌, map, Option, Some, None, codes, if◌then◌else◌}
use Rattle.std.specs.Str.{bytes_eq}
use Rattle.fp_base.specs.declared.object.ObjKind.TheVariants as kinds
use Rattle.fp_name.specs.Refs.{Ref, ref_with}
use Rattle.fp_name.specs.declared.kind.RefKind.TheVariants.{App, Runtime}
use Rattle.fp_small.specs.declared.state.RefRow.{RefRow}
use Rattle.ost_model.specs.declared.object.Object.TheVariants as objects
use Rattle.ost_model.specs.Objects.{Have}
use Rattle.fl_meta.specs.declared.meta.Meta.{Meta}
use Rattle.fl_extension.specs.declared.point.Point.{Point}

-- The content of the first commit's `metadata`
abbrev pub first_metadata : List ℕ
first_metadata = codes "[Application]\nruntime=org.x.Base/x86_64/1\n"

-- The digest of the first commit's `metadata`
abbrev pub first_file : List ℕ
first_file = 172 ∷ 134 ∷ 199 ∷ 29 ∷ 128 ∷ 249 ∷ 45 ∷ 128 ∷ 132 ∷ 185 ∷ 101 ∷ 151 ∷ 77 ∷ 201 ∷ 105 ∷
    149 ∷ 16 ∷ 75 ∷ 176 ∷ 224 ∷ 133 ∷ 1 ∷ 164 ∷ 213 ∷ 150 ∷ 186 ∷ 118 ∷ 120 ∷ 208 ∷ 149 ∷ 44 ∷ 71 ∷
    []

-- The dirtree of the first commit's root: the file `metadata`
abbrev pub first_tree_bytes : List ℕ
first_tree_bytes = 109 ∷ 101 ∷ 116 ∷ 97 ∷ 100 ∷ 97 ∷ 116 ∷ 97 ∷ 0 ∷ 172 ∷ 134 ∷ 199 ∷ 29 ∷ 128 ∷
    249 ∷ 45 ∷ 128 ∷ 132 ∷ 185 ∷ 101 ∷ 151 ∷ 77 ∷ 201 ∷ 105 ∷ 149 ∷ 16 ∷ 75 ∷ 176 ∷ 224 ∷ 133 ∷ 1 ∷
    164 ∷ 213 ∷ 150 ∷ 186 ∷ 118 ∷ 120 ∷ 208 ∷ 149 ∷ 44 ∷ 71 ∷ 9 ∷ 42 ∷ 43 ∷ []

-- The digest of the dirtree of the first commit's root
abbrev pub first_tree : List ℕ
first_tree = 161 ∷ 48 ∷ 237 ∷ 232 ∷ 230 ∷ 189 ∷ 254 ∷ 230 ∷ 18 ∷ 30 ∷ 134 ∷ 76 ∷ 186 ∷ 146 ∷ 194 ∷
    35 ∷ 178 ∷ 237 ∷ 52 ∷ 251 ∷ 117 ∷ 177 ∷ 63 ∷ 66 ∷ 232 ∷ 192 ∷ 110 ∷ 184 ∷ 40 ∷ 155 ∷ 212 ∷ 89 ∷
    []

-- The first commit
abbrev pub first_commit_bytes : List ℕ
first_commit_bytes = 0 ∷ 0 ∷ 0 ∷ 0 ∷ 0 ∷ 0 ∷ 0 ∷ 0 ∷ 0 ∷ 0 ∷ 0 ∷ 0 ∷ 0 ∷ 0 ∷ 0 ∷ 7 ∷ 161 ∷ 48 ∷
    237 ∷ 232 ∷ 230 ∷ 189 ∷ 254 ∷ 230 ∷ 18 ∷ 30 ∷ 134 ∷ 76 ∷ 186 ∷ 146 ∷ 194 ∷ 35 ∷ 178 ∷ 237 ∷ 52 ∷
    251 ∷ 117 ∷ 177 ∷ 63 ∷ 66 ∷ 232 ∷ 192 ∷ 110 ∷ 184 ∷ 40 ∷ 155 ∷ 212 ∷ 89 ∷ 68 ∷ 106 ∷ 14 ∷ 241 ∷
    27 ∷ 124 ∷ 193 ∷ 103 ∷ 243 ∷ 182 ∷ 3 ∷ 229 ∷ 133 ∷ 199 ∷ 238 ∷ 238 ∷ 182 ∷ 117 ∷ 250 ∷ 164 ∷
    18 ∷
    213 ∷ 236 ∷ 115 ∷ 246 ∷ 41 ∷ 136 ∷ 235 ∷ 11 ∷ 108 ∷ 84 ∷ 136 ∷ 48 ∷ 2 ∷ 1 ∷ 0 ∷ 0 ∷ 0 ∷ []

-- The digest of the first commit
abbrev pub first_commit : List ℕ
first_commit = 53 ∷ 205 ∷ 88 ∷ 243 ∷ 39 ∷ 97 ∷ 27 ∷ 52 ∷ 241 ∷ 209 ∷ 93 ∷ 162 ∷ 28 ∷ 191 ∷ 72 ∷
    153 ∷ 233 ∷ 187 ∷ 140 ∷ 67 ∷ 253 ∷ 20 ∷ 112 ∷ 218 ∷ 127 ∷ 63 ∷ 135 ∷ 76 ∷ 183 ∷ 114 ∷ 95 ∷ 154 ∷
    []

-- The content of the second commit's `metadata`
abbrev pub second_metadata : List ℕ
second_metadata = codes "[Application]\nruntime=org.x.Platform/x86_64/1\n[Extension org.x.B.Z]\ndirectory=z\n[Extension org.x.B.Locale]\ndirectory=l\n"

-- The digest of the second commit's `metadata`
abbrev pub second_file : List ℕ
second_file = 141 ∷ 155 ∷ 68 ∷ 227 ∷ 55 ∷ 132 ∷ 134 ∷ 97 ∷ 25 ∷ 43 ∷ 255 ∷ 35 ∷ 188 ∷ 149 ∷ 80 ∷ 9 ∷
    64 ∷ 205 ∷ 190 ∷ 67 ∷ 120 ∷ 53 ∷ 52 ∷ 6 ∷ 88 ∷ 117 ∷ 32 ∷ 153 ∷ 170 ∷ 124 ∷ 135 ∷ 66 ∷ []

-- The dirtree of the second commit's root: the file `metadata`
abbrev pub second_tree_bytes : List ℕ
second_tree_bytes = 109 ∷ 101 ∷ 116 ∷ 97 ∷ 100 ∷ 97 ∷ 116 ∷ 97 ∷ 0 ∷ 141 ∷ 155 ∷ 68 ∷ 227 ∷ 55 ∷
    132 ∷ 134 ∷ 97 ∷ 25 ∷ 43 ∷ 255 ∷ 35 ∷ 188 ∷ 149 ∷ 80 ∷ 9 ∷ 64 ∷ 205 ∷ 190 ∷ 67 ∷ 120 ∷ 53 ∷ 52 ∷
    6 ∷ 88 ∷ 117 ∷ 32 ∷ 153 ∷ 170 ∷ 124 ∷ 135 ∷ 66 ∷ 9 ∷ 42 ∷ 43 ∷ []

-- The digest of the dirtree of the second commit's root
abbrev pub second_tree : List ℕ
second_tree = 254 ∷ 221 ∷ 240 ∷ 141 ∷ 14 ∷ 80 ∷ 214 ∷ 251 ∷ 90 ∷ 33 ∷ 120 ∷ 39 ∷ 161 ∷ 56 ∷ 28 ∷
    75 ∷ 192 ∷ 12 ∷ 232 ∷ 120 ∷ 62 ∷ 89 ∷ 251 ∷ 237 ∷ 196 ∷ 231 ∷ 250 ∷ 48 ∷ 108 ∷ 99 ∷ 22 ∷ 50 ∷ []

-- The second commit
abbrev pub second_commit_bytes : List ℕ
second_commit_bytes = 0 ∷ 0 ∷ 0 ∷ 0 ∷ 0 ∷ 0 ∷ 0 ∷ 0 ∷ 0 ∷ 0 ∷ 0 ∷ 0 ∷ 0 ∷ 0 ∷ 0 ∷ 8 ∷ 254 ∷ 221 ∷
    240 ∷ 141 ∷ 14 ∷ 80 ∷ 214 ∷ 251 ∷ 90 ∷ 33 ∷ 120 ∷ 39 ∷ 161 ∷ 56 ∷ 28 ∷ 75 ∷ 192 ∷ 12 ∷ 232 ∷
    120 ∷
    62 ∷ 89 ∷ 251 ∷ 237 ∷ 196 ∷ 231 ∷ 250 ∷ 48 ∷ 108 ∷ 99 ∷ 22 ∷ 50 ∷ 68 ∷ 106 ∷ 14 ∷ 241 ∷ 27 ∷
    124 ∷
    193 ∷ 103 ∷ 243 ∷ 182 ∷ 3 ∷ 229 ∷ 133 ∷ 199 ∷ 238 ∷ 238 ∷ 182 ∷ 117 ∷ 250 ∷ 164 ∷ 18 ∷ 213 ∷
    236 ∷
    115 ∷ 246 ∷ 41 ∷ 136 ∷ 235 ∷ 11 ∷ 108 ∷ 84 ∷ 136 ∷ 48 ∷ 2 ∷ 1 ∷ 0 ∷ 0 ∷ 0 ∷ []

-- The digest of the second commit
abbrev pub second_commit : List ℕ
second_commit = 111 ∷ 149 ∷ 28 ∷ 125 ∷ 194 ∷ 30 ∷ 118 ∷ 59 ∷ 20 ∷ 111 ∷ 59 ∷ 70 ∷ 220 ∷ 27 ∷ 130 ∷
    121 ∷ 219 ∷ 25 ∷ 195 ∷ 216 ∷ 81 ∷ 122 ∷ 235 ∷ 173 ∷ 252 ∷ 203 ∷ 120 ∷ 222 ∷ 10 ∷ 223 ∷ 161 ∷
    14 ∷
    []

-- ---- the objects

-- The objects by digest and kind: both commits, the dirtrees of their roots, and their files, with
-- the permission bits 0644
abbrev pub have : Have
have d kinds.Commit = if bytes_eq d first_commit then Some (objects.Meta first_commit_bytes)
    else (if bytes_eq d second_commit then Some (objects.Meta second_commit_bytes) else None)
have d kinds.DirTree = if bytes_eq d first_tree then Some (objects.Meta first_tree_bytes)
    else (if bytes_eq d second_tree then Some (objects.Meta second_tree_bytes) else None)
have d kinds.DirMeta = None
have d kinds.File = if bytes_eq d first_file then Some (objects.File 420 first_metadata)
    else (if bytes_eq d second_file then Some (objects.File 420 second_metadata) else None)

-- The objects without the dirtree of the first commit's root
abbrev pub without_tree : Have
without_tree d kinds.Commit = have d kinds.Commit
without_tree d kinds.DirTree = if bytes_eq d first_tree then None else have d kinds.DirTree
without_tree d kinds.DirMeta = None
without_tree d kinds.File = have d kinds.File

-- ---- the refs

-- The runtime that the first commit names
abbrev pub base : Ref
base = ref_with Runtime (codes "org.x.Base") (codes "x86_64") (codes "1")

-- The runtime that the second commit names
abbrev pub platform : Ref
platform = ref_with Runtime (codes "org.x.Platform") (codes "x86_64") (codes "1")

-- A runtime that no commit names
abbrev pub other : Ref
other = ref_with Runtime (codes "org.x.Other") (codes "x86_64") (codes "1")

-- The ref of the application with this ID
abbrev pub app : List ℕ → Ref
app id = ref_with App id (codes "x86_64") (codes "stable")

-- The application at the first commit
abbrev pub first : Ref
first = app (codes "org.x.A")

-- The first application at the second commit
abbrev pub second : Ref
second = app (codes "org.x.B")

-- The second application at the second commit
abbrev pub third : Ref
third = app (codes "org.x.C")

-- The row of a ref that is deployed at this commit
abbrev pub row : Ref → List ℕ → RefRow
row name commit =
    record { name = name; origin = codes "hub"; commit = commit; timestamp = 7; previous = None }

-- The names of the extension points of the second commit, in their order
abbrev pub names : List (List ℕ)
names = codes "org.x.B.Locale" ∷ codes "org.x.B.Z" ∷ []

-- An application with the runtime that it names
abbrev pub runtime_of : Ref × Meta → Ref × Option Ref
runtime_of app = (app.0, app.1.runtime)

-- A ref with the names of its extension points
abbrev pub names_of : Ref × List Point → Ref × List (List ℕ)
names_of owner = (owner.0, map (λ point. point.name) owner.1)

-- The deployed refs: the first application at the first commit, the two others at the second, and a
-- runtime at the second too, though that commit is an application's
abbrev pub rows : List RefRow
rows = row first first_commit ∷ row second second_commit ∷ row third second_commit
    ∷ row other second_commit ∷ []

-- ---- the content of their metadata

-- The applications with the runtimes that they name
abbrev pub runtimes : List (Ref × Option Ref)
runtimes = (first, Some base) ∷ (second, Some platform) ∷ (third, Some platform) ∷ []

-- The refs with the names of their extension points
abbrev pub points : List (Ref × List (List ℕ))
points = (first, []) ∷ (second, names) ∷ (third, names) ∷ (other, names) ∷ []
