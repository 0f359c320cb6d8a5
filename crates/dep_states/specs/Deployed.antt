-- A sample image with one deployed ref: its four objects, its commit's directory with the hard link
-- and the file `deploy`, and its ref file, beside a `config` and an override.
use Rattle.std.specs.Prelude.{ℕ, List, [], ◌∷◌, ◌++◌, None, codes}
use Rattle.fp_host.specs.Paths.{Elements}
use Rattle.fp_host.specs.Outcome.{Spot, folder, holds, points, Disk}
use Rattle.fp_name.specs.declared.kind.RefKind.TheVariants.{Runtime}
use Rattle.fp_name.specs.Refs.{Ref}
use Rattle.fp_small.specs.Places.{repo, tmp}
use Rattle.fp_small.specs.declared.state.State.{State}
use Rattle.fp_small.specs.declared.state.RefRow.{RefRow}
use Rattle.fp_small.specs.declared.state.Layout.TheVariants.{Two}
use Rattle.dep_states.specs.Names.{config, active, branch_dir, text_dir, deploy, ref_file, override_path}
use Rattle.dep_states.specs.Samples.{rows_at, config_bytes, layer_bytes, hub, pin, layer}

-- The deployed ref, a runtime
abbrev pub platform : Ref
platform =
    record {
      kind = Runtime;
      id = codes "org.x.Platform";
      arch = codes "x86_64";
      branch = codes "1";
    }

-- The bytes of the runtime's file `metadata`: `[Runtime]` and a newline
abbrev pub metadata_bytes : List ℕ
metadata_bytes = 91 ∷ 82 ∷ 117 ∷ 110 ∷ 116 ∷ 105 ∷ 109 ∷ 101 ∷ 93 ∷ 10 ∷ []

-- The digest of the file object with the bytes of `metadata` and the mode 0100644
abbrev pub file_digest : List ℕ
file_digest = 177 ∷ 100 ∷ 144 ∷ 164 ∷ 18 ∷ 97 ∷ 27 ∷ 55 ∷ 222 ∷ 50 ∷ 24 ∷ 209 ∷ 149 ∷ 203 ∷ 146 ∷
    135 ∷ 205 ∷ 131 ∷ 88 ∷ 83 ∷ 216 ∷ 179 ∷ 240 ∷ 39 ∷ 254 ∷ 244 ∷ 41 ∷ 31 ∷ 212 ∷ 102 ∷ 76 ∷ 0 ∷ []

-- The bytes of the dirtree, which has one file, `metadata`
abbrev pub tree_bytes : List ℕ
tree_bytes = 109 ∷ 101 ∷ 116 ∷ 97 ∷ 100 ∷ 97 ∷ 116 ∷ 97 ∷ 0 ∷ 177 ∷ 100 ∷ 144 ∷ 164 ∷ 18 ∷ 97 ∷ 27 ∷
    55 ∷ 222 ∷ 50 ∷ 24 ∷ 209 ∷ 149 ∷ 203 ∷ 146 ∷ 135 ∷ 205 ∷ 131 ∷ 88 ∷ 83 ∷ 216 ∷ 179 ∷ 240 ∷ 39 ∷
    254 ∷ 244 ∷ 41 ∷ 31 ∷ 212 ∷ 102 ∷ 76 ∷ 0 ∷ 9 ∷ 42 ∷ 43 ∷ []

-- The digest of the dirtree
abbrev pub tree_digest : List ℕ
tree_digest = 143 ∷ 51 ∷ 186 ∷ 181 ∷ 38 ∷ 125 ∷ 34 ∷ 154 ∷ 24 ∷ 8 ∷ 250 ∷ 169 ∷ 220 ∷ 211 ∷ 172 ∷
    246 ∷ 30 ∷ 181 ∷ 146 ∷ 139 ∷ 107 ∷ 225 ∷ 30 ∷ 130 ∷ 138 ∷ 196 ∷ 202 ∷ 155 ∷ 170 ∷ 69 ∷ 29 ∷ 74 ∷
    []

-- The bytes of the dirmeta with the mode 040755
abbrev pub dir_bytes : List ℕ
dir_bytes = 0 ∷ 0 ∷ 0 ∷ 0 ∷ 0 ∷ 0 ∷ 0 ∷ 0 ∷ 0 ∷ 0 ∷ 65 ∷ 237 ∷ []

-- The digest of the dirmeta
abbrev pub dir_digest : List ℕ
dir_digest = 68 ∷ 106 ∷ 14 ∷ 241 ∷ 27 ∷ 124 ∷ 193 ∷ 103 ∷ 243 ∷ 182 ∷ 3 ∷ 229 ∷ 133 ∷ 199 ∷ 238 ∷
    238 ∷ 182 ∷ 117 ∷ 250 ∷ 164 ∷ 18 ∷ 213 ∷ 236 ∷ 115 ∷ 246 ∷ 41 ∷ 136 ∷ 235 ∷ 11 ∷ 108 ∷ 84 ∷
    136 ∷
    []

-- The bytes of the commit, which has no parent and the timestamp 7
abbrev pub commit_bytes : List ℕ
commit_bytes = 0 ∷ 0 ∷ 0 ∷ 0 ∷ 0 ∷ 0 ∷ 0 ∷ 0 ∷ 0 ∷ 0 ∷ 0 ∷ 0 ∷ 0 ∷ 0 ∷ 0 ∷ 7 ∷ 143 ∷ 51 ∷ 186 ∷
    181 ∷ 38 ∷ 125 ∷ 34 ∷ 154 ∷ 24 ∷ 8 ∷ 250 ∷ 169 ∷ 220 ∷ 211 ∷ 172 ∷ 246 ∷ 30 ∷ 181 ∷ 146 ∷ 139 ∷
    107 ∷ 225 ∷ 30 ∷ 130 ∷ 138 ∷ 196 ∷ 202 ∷ 155 ∷ 170 ∷ 69 ∷ 29 ∷ 74 ∷ 68 ∷ 106 ∷ 14 ∷ 241 ∷ 27 ∷
    124 ∷ 193 ∷ 103 ∷ 243 ∷ 182 ∷ 3 ∷ 229 ∷ 133 ∷ 199 ∷ 238 ∷ 238 ∷ 182 ∷ 117 ∷ 250 ∷ 164 ∷ 18 ∷
    213 ∷
    236 ∷ 115 ∷ 246 ∷ 41 ∷ 136 ∷ 235 ∷ 11 ∷ 108 ∷ 84 ∷ 136 ∷ 48 ∷ 2 ∷ 1 ∷ 0 ∷ 0 ∷ 0 ∷ []

-- The digest of the commit
abbrev pub commit : List ℕ
commit = 173 ∷ 149 ∷ 166 ∷ 197 ∷ 51 ∷ 136 ∷ 157 ∷ 34 ∷ 197 ∷ 227 ∷ 226 ∷ 91 ∷ 195 ∷ 75 ∷ 147 ∷ 16 ∷
    209 ∷ 155 ∷ 132 ∷ 39 ∷ 230 ∷ 63 ∷ 191 ∷ 121 ∷ 199 ∷ 184 ∷ 187 ∷ 65 ∷ 187 ∷ 45 ∷ 242 ∷ 98 ∷ []

-- The bytes of the file `deploy`: from the remote `hub`, at the commit, with the timestamp 7
abbrev pub deploy_bytes : List ℕ
deploy_bytes = 104 ∷ 117 ∷ 98 ∷ 0 ∷ 97 ∷ 100 ∷ 57 ∷ 53 ∷ 97 ∷ 54 ∷ 99 ∷ 53 ∷ 51 ∷ 51 ∷ 56 ∷ 56 ∷
    57 ∷ 100 ∷ 50 ∷ 50 ∷ 99 ∷ 53 ∷ 101 ∷ 51 ∷ 101 ∷ 50 ∷ 53 ∷ 98 ∷ 99 ∷ 51 ∷ 52 ∷ 98 ∷ 57 ∷ 51 ∷
    49 ∷
    48 ∷ 100 ∷ 49 ∷ 57 ∷ 98 ∷ 56 ∷ 52 ∷ 50 ∷ 55 ∷ 101 ∷ 54 ∷ 51 ∷ 102 ∷ 98 ∷ 102 ∷ 55 ∷ 57 ∷ 99 ∷
    55 ∷
    98 ∷ 56 ∷ 98 ∷ 98 ∷ 52 ∷ 49 ∷ 98 ∷ 98 ∷ 50 ∷ 100 ∷ 102 ∷ 50 ∷ 54 ∷ 50 ∷ 0 ∷ 0 ∷ 0 ∷ 0 ∷ 7 ∷ 0 ∷
    0 ∷ 0 ∷ 0 ∷ 0 ∷ 0 ∷ 0 ∷ 69 ∷ 4 ∷ []

-- The digest of the commit, as hexadecimal digits
abbrev pub commit_text : List ℕ
commit_text = codes "ad95a6c533889d22c5e3e25bc34b9310d19b8427e63fbf79c7b8bb41bb2df262"

-- The path of an object by the two parts of its name
abbrev pub object_name : List ℕ → List ℕ → Elements
object_name xx name = name ∷ xx ∷ codes "objects" ∷ repo

-- The path of an object's directory
abbrev pub prefix_name : List ℕ → Elements
prefix_name xx = xx ∷ codes "objects" ∷ repo

-- The rows of the image with one deployed ref: the node at each path
abbrev pub deployed_rows : List (Elements × Spot)
deployed_rows =
    ([], folder)
    ∷ (repo, folder)
    ∷ (codes "objects" ∷ repo, folder)
    ∷ (prefix_name (codes "b1"), folder)
    ∷ (
      object_name (codes "b1")
          (codes "6490a412611b37de3218d195cb9287cd835853d8b3f027fef4291fd4664c00.file"),
      holds 1 420 metadata_bytes,
    )
    ∷ (prefix_name (codes "8f"), folder)
    ∷ (
      object_name (codes "8f")
          (codes "33bab5267d229a1808faa9dcd3acf61eb5928b6be11e828ac4ca9baa451d4a.dirtree"),
      holds 2 420 tree_bytes,
    )
    ∷ (prefix_name (codes "44"), folder)
    ∷ (
      object_name (codes "44")
          (codes "6a0ef11b7cc167f3b603e585c7eeeeb675faa412d5ec73f62988eb0b6c5488.dirmeta"),
      holds 3 420 dir_bytes,
    )
    ∷ (prefix_name (codes "ad"), folder)
    ∷ (
      object_name (codes "ad")
          (codes "95a6c533889d22c5e3e25bc34b9310d19b8427e63fbf79c7b8bb41bb2df262.commit"),
      holds 4 420 commit_bytes,
    )
    ∷ (tmp, folder)
    ∷ (codes "config" ∷ repo, holds 7 420 [])
    ∷ (codes "refs" ∷ repo, folder)
    ∷ (codes "heads" ∷ codes "refs" ∷ repo, folder)
    ∷ (codes "remotes" ∷ codes "refs" ∷ repo, folder)
    ∷ (codes "hub" ∷ codes "remotes" ∷ codes "refs" ∷ repo, folder)
    ∷ (codes "runtime" ∷ codes "hub" ∷ codes "remotes" ∷ codes "refs" ∷ repo, folder)
    ∷ (
      codes "org.x.Platform" ∷ codes "runtime" ∷ codes "hub" ∷ codes "remotes" ∷ codes "refs"
          ∷ repo,
      folder,
    )
    ∷ (
      codes "x86_64" ∷ codes "org.x.Platform" ∷ codes "runtime" ∷ codes "hub" ∷ codes "remotes"
          ∷ codes "refs" ∷ repo,
      folder,
    )
    ∷ (ref_file (codes "hub") platform, holds 6 420 (commit_text ++ 10 ∷ []))
    ∷ (codes "runtime" ∷ [], folder)
    ∷ (codes "org.x.Platform" ∷ codes "runtime" ∷ [], folder)
    ∷ (codes "x86_64" ∷ codes "org.x.Platform" ∷ codes "runtime" ∷ [], folder)
    ∷ (branch_dir platform, folder)
    ∷ (active platform, points commit_text)
    ∷ (text_dir platform commit_text, folder)
    ∷ (codes "metadata" ∷ text_dir platform commit_text, holds 1 420 metadata_bytes)
    ∷ (deploy (text_dir platform commit_text), holds 5 420 deploy_bytes)
    ∷ (config, holds 8 420 config_bytes)
    ∷ (codes "overrides" ∷ [], folder)
    ∷ (override_path (codes "global"), holds 9 420 layer_bytes)
    ∷ (codes "made" ∷ [], folder) ∷ []

-- The image with one deployed ref
abbrev pub deployed_disk : Disk
deployed_disk = rows_at deployed_rows

-- The row of the deployed ref
abbrev pub deployed_row : RefRow
deployed_row =
    record {
      name = platform;
      origin = codes "hub";
      commit = commit;
      timestamp = 7;
      previous = None;
    }

-- The state that the image with one deployed ref shows
abbrev pub deployed_state : State
deployed_state = record {
  layout = Two;
  refs = deployed_row ∷ [];
  remotes = hub ∷ [];
  pins = pin ∷ [];
  overrides = layer ∷ [];
}
