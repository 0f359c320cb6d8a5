-- The paths where new files last, and their contents there.
use Rattle.std.specs.Prelude.{◌≡◌, ◌⊎◌, ℕ, List, [], ◌∷◌, true, Some, None, Contains, codes}
use Rattle.fp_base.specs.declared.object.ObjKind.{ObjKind}
use Rattle.fp_host.specs.Paths.{Elements, file, IsAbove}
use Rattle.fp_host.specs.View.{View, Inode}
use Rattle.fp_keyfile.specs.declared.group.Group.{Group}
use Rattle.fp_keyfile.specs.KeyFile.{text_of, is_good}
use Rattle.fp_name.specs.Grammar.{is_remote_name, is_override}
use Rattle.fp_name.specs.Hex.{is_digest}
use Rattle.fp_name.specs.Refs.{Ref, is_ref}
use Rattle.fp_small.specs.Config.{config_text}
use Rattle.fp_small.specs.Places.{repo}
use Rattle.fp_small.specs.declared.config.Settings.{Settings}
use Rattle.fp_small.specs.declared.limits.TheConstants.{FILE_MODE}
use Rattle.ost_model.specs.Objects.{object_path}
use Rattle.ost_model.specs.declared.limits.TheConstants.{STORE_CONFIG}
use Rattle.ost_refs.specs.Files.{ref_bytes}
use Rattle.dep_states.specs.Names.{config, repo_config, override_path, commit_dir, deploy, ref_file}

-- The file has these bytes and the permission bits 0644
abbrev pub Says : List ℕ → Inode → Type 0
Says bytes f = f ≡ record { mode = FILE_MODE; bytes = bytes }

-- A file that may last at this path: an object of the store; the store's `config`, with its only
-- text; a ref's file, with a commit; anything below `made` or `exports`; the file `deploy` of a
-- commit; the settings; an override, with the text of its groups and nothing else. All but objects,
-- and what is below `made` and `exports`, have the permission bits 0644.
pub data IsLasting (q : Elements) (f : Inode) : Type 0 where
  an_object : (d : List ℕ) (kind : ObjKind) → is_digest d ≡ true → q ≡ object_path repo d kind
      → IsLasting q f
  store_config : q ≡ repo_config → Says STORE_CONFIG.now f → IsLasting q f
  a_ref : (origin : List ℕ) (name : Ref) (commit : List ℕ) → is_remote_name origin ≡ true
      → is_ref name ≡ true → is_digest commit ≡ true → q ≡ ref_file origin name
      → Says (ref_bytes commit) f → IsLasting q f
  a_made_one : IsAbove (codes "made" ∷ []) q → IsLasting q f
  an_export : IsAbove (codes "exports" ∷ []) q → IsLasting q f
  a_record : (name : Ref) (commit : List ℕ) → is_ref name ≡ true → is_digest commit ≡ true
      → q ≡ deploy (commit_dir name commit) → f.mode ≡ FILE_MODE → IsLasting q f
  the_settings : (s : Settings) → q ≡ config → Says (config_text s) f → IsLasting q f
  an_override : (name : List ℕ) (groups : List Group) → is_override name ≡ true
      → is_good groups ≡ true → q ≡ override_path name → Says (text_of groups) f → IsLasting q f

-- Each file that is new since `u` and isn't empty in `w` was put at a path where `L` allows it with
-- its present mode and bytes
pub record SharesAs (L : Elements → Inode → Type 0) (u w : View) : Type 0 where
  pub each : (id : ℕ) (f : Inode) → u.files id ≡ None → w.files id ≡ Some f
      → (f.bytes ≡ []) ⊎ ((q : Elements) × L q f × Contains w.stood (q, file id))

-- The path is `p`, and the file there has the permission bits 0644
abbrev pub SmallAt : Elements → Elements → Inode → Type 0
SmallAt p q f = (q ≡ p) × (f.mode ≡ FILE_MODE)
