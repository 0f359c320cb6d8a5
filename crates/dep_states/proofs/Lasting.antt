-- What lasts: none of the work, and in a commit's folder the record alone.
use Rattle.std.proofs.Common.{◌≡◌, inl, inr, ℕ, List, [], ◌∷◌, ◌++◌, length, true, false, Ok, refl, sym, ◌∙◌, ap, subst, codes, arith}
use Rattle.std.specs.Str.{bytes_eq}
use Rattle.std.proofs.lemmas.List.{length-append}
use Rattle.fp_base.specs.declared.object.ObjKind.{ObjKind}
use Rattle.fp_base.proofs.Texts.{bytes_eq-false}
use Rattle.fp_host.specs.Paths.{Elements, IsAbove}
use Rattle.fp_host.specs.View.{Inode}
use Rattle.fp_host.proofs.Above.{above_rest}
use Rattle.fp_keyfile.specs.declared.group.Group.{Group}
use Rattle.fp_keyfile.specs.KeyFile.{text_of, file_of, is_good}
use Rattle.fp_keyfile.proofs.Read.{file_of-text_of}
use Rattle.fp_name.specs.Kinds.{kind_word}
use Rattle.fp_name.specs.Refs.{Ref}
use Rattle.fp_name.proofs.Refs.{word_apart}
use Rattle.fp_small.specs.Clear.{IsWithin}
use Rattle.fp_small.specs.Places.{repo, tmp}
use Rattle.fp_small.proofs.Within.{within_rest}
use Rattle.ost_model.specs.Objects.{object_path}
use Rattle.ost_model.specs.Stores.{objects_folder}
use Rattle.ost_model.specs.declared.limits.TheConstants.{STORE_CONFIG}
use Rattle.ost_refs.specs.Places.{place_path}
use Rattle.ost_refs.specs.declared.place.RefPlace.{RefPlace}
use Rattle.ost_refs.specs.declared.place.RefPlace.TheVariants.{Head, Remote}
use Rattle.dep_states.specs.Lasting.{Says, IsLasting}
use Rattle.dep_states.specs.Names.{config, override_path, commit_dir, deploy, ref_file}
use Rattle.dep_states.specs.Zones.{outward}
use Rattle.dep_states.proofs.Deployed.{outward_append, top}
use Rattle.dep_states.proofs.Rows.{head_of}
use Rattle.dep_states.proofs.Switching.{second, word_no_repo}

-- where files may come to stay, whatever they are
pub data TakesFiles (q : Elements) : Type 0 where
  an_object : IsAbove (objects_folder repo) q → TakesFiles q
  store_config : q ≡ codes "config" ∷ repo → TakesFiles q
  a_ref : IsAbove (codes "refs" ∷ repo) q → TakesFiles q
  a_made_one : IsAbove (codes "made" ∷ []) q → TakesFiles q
  an_export : IsAbove (codes "exports" ∷ []) q → TakesFiles q
  a_record : (name : Ref) (commit : List ℕ) → q ≡ deploy (commit_dir name commit) → TakesFiles q
  the_settings : q ≡ config → TakesFiles q
  an_override : (name : List ℕ) → q ≡ override_path name → TakesFiles q

-- ---- by the first name of a path, and the second

pub second_below : (x : List ℕ) (q : Elements) → IsWithin (x ∷ repo) q → second (outward q) ≡ x
second_below x q within = let below = within_rest (x ∷ repo) q within in ap (λ (p : Elements). second (outward p)) below.1 ∙ ap second (outward_append below.0 (x ∷ repo) [])

pub top_in_repo : (x : List ℕ) (q : Elements) → IsWithin (x ∷ repo) q → top q ≡ codes "repo"
top_in_repo x q within = let below = within_rest (x ∷ repo) q within in ap top below.1 ∙ ap head_of (outward_append below.0 (x ∷ repo) [])

top_below : (x : List ℕ) (q : Elements) → IsAbove (x ∷ []) q → top q ≡ x
top_below x q above = let below = above_rest (x ∷ []) q above in ap top below.1 ∙ ap head_of (outward_append below.0 (x ∷ []) [])

pub takes_no_work : (q : Elements) → IsWithin tmp q → TakesFiles q → ⊥
takes_no_work q work lasts = case lasts
  where
    in_tmp : second (outward q) ≡ codes "tmp"
    in_tmp = second_below (codes "tmp") q work

    in_repo : top q ≡ codes "repo"
    in_repo = top_in_repo (codes "tmp") q work

    case : TakesFiles q → ⊥
    case (an_object above) = bytes_eq-false (codes "objects") (codes "tmp") refl (sym (second_below (codes "objects") q (inr above)) ∙ in_tmp)
    case (store_config at) = bytes_eq-false (codes "config") (codes "tmp") refl (sym (ap (λ (p : Elements). second (outward p)) at) ∙ in_tmp)
    case (a_ref above) = bytes_eq-false (codes "refs") (codes "tmp") refl (sym (second_below (codes "refs") q (inr above)) ∙ in_tmp)
    case (a_made_one above) = bytes_eq-false (codes "made") (codes "repo") refl (sym (top_below (codes "made") q above) ∙ in_repo)
    case (an_export above) = bytes_eq-false (codes "exports") (codes "repo") refl (sym (top_below (codes "exports") q above) ∙ in_repo)
    case (a_record name commit at) = word_no_repo name.kind (sym (ap top at) ∙ in_repo)
    case (the_settings at) = bytes_eq-false (codes "config") (codes "repo") refl (sym (ap top at) ∙ in_repo)
    case (an_override name at) = bytes_eq-false (codes "overrides") (codes "repo") refl (sym (ap top at) ∙ in_repo)

-- ---- in a commit's folder

one_below : (d : List ℕ) (rest dir other : Elements) → length dir ≡ length other → d ∷ other ≡ rest ++ dir → other ≡ dir
one_below d [] dir other same e = absurd (omega (arith, ap length e, same))
one_below d (y ∷ []) dir other same e = cc e
one_below d (y ∷ z ∷ rest) dir other same e = absurd (omega (arith, ap length e, length-append (y ∷ z ∷ rest) dir, same))

module _ (name : Ref) (commit : List ℕ) (q : Elements) (above : IsAbove (commit_dir name commit) q) where
  below : (rest : Elements) × (q ≡ rest ++ commit_dir name commit)
  below = above_rest (commit_dir name commit) q above

  pub commit_kind : top q ≡ kind_word name.kind
  commit_kind = ap top below.1 ∙ ap head_of (outward_append below.0 (commit_dir name commit) [])

  -- no work stands there
  pub commit_no_work : IsWithin tmp q → ⊥
  commit_no_work work = word_no_repo name.kind (sym commit_kind ∙ top_in_repo (codes "tmp") q work)

  pub takes_record : TakesFiles q → q ≡ deploy (commit_dir name commit)
  takes_record (an_object within) = absurd (word_no_repo name.kind (sym commit_kind ∙ top_in_repo (codes "objects") q (inr within)))
  takes_record (store_config at) = absurd (word_no_repo name.kind (sym commit_kind ∙ ap top at))
  takes_record (a_ref within) = absurd (word_no_repo name.kind (sym commit_kind ∙ top_in_repo (codes "refs") q (inr within)))
  takes_record (a_made_one within) = absurd (word_apart name.kind (codes "made") refl refl (sym commit_kind ∙ top_below (codes "made") q within))
  takes_record (an_export within) = absurd (word_apart name.kind (codes "exports") refl refl (sym commit_kind ∙ top_below (codes "exports") q within))
  takes_record (a_record other text at) = at ∙ ap deploy (one_below (codes "deploy") below.0 (commit_dir name commit) (commit_dir other text) refl (sym at ∙ below.1))
  takes_record (the_settings at) = absurd (word_apart name.kind (codes "config") refl refl (sym commit_kind ∙ ap top at))
  takes_record (an_override other at) = absurd (word_apart name.kind (codes "overrides") refl refl (sym commit_kind ∙ ap top at))

-- ---- what does last

pub takes_object : (d : List ℕ) (kind : ObjKind) → TakesFiles (object_path repo d kind)
takes_object d kind = an_object (inr (inl refl))

pub takes_ref : (place : RefPlace) → TakesFiles (place_path repo place)
takes_ref (Head r) = a_ref (inr (inr (inr (inr (inl refl)))))
takes_ref (Remote origin r) = a_ref (inr (inr (inr (inr (inr (inl refl))))))

-- ---- what lasts, and where

pub takes : {q : Elements} {f : Inode} → IsLasting q f → TakesFiles q
takes (IsLasting.an_object d kind digits at) = subst TakesFiles (sym at) (takes_object d kind)
takes (IsLasting.store_config at says) = store_config at
takes (IsLasting.a_ref origin name commit remote good digits at says) = subst TakesFiles (sym at) (takes_ref (Remote origin name))
takes (IsLasting.a_made_one above) = a_made_one above
takes (IsLasting.an_export above) = an_export above
takes (IsLasting.a_record name commit good digits at mode) = a_record name commit at
takes (IsLasting.the_settings s at says) = the_settings at
takes (IsLasting.an_override name groups good fine at says) = an_override name at

pub lasting_no_work : (q : Elements) (f : Inode) → IsWithin tmp q → IsLasting q f → ⊥
lasting_no_work q f work lasts = takes_no_work q work (takes lasts)

pub lasting_record : (name : Ref) (commit : List ℕ) (q : Elements) (f : Inode) → IsAbove (commit_dir name commit) q → IsLasting q f → q ≡ deploy (commit_dir name commit)
lasting_record name commit q f above lasts = takes_record name commit q above (takes lasts)

-- a name below another first name
off_top : (x y : List ℕ) (q : Elements) → bytes_eq x y ≡ false → top q ≡ x → IsAbove (y ∷ []) q → ⊥
off_top x y q apart is above = bytes_eq-false x y apart (sym is ∙ top_below y q above)

-- at an override's path lasts the text of an override's groups alone
pub lasting_override : (name : List ℕ) (f : Inode) → IsLasting (override_path name) f → (groups : List Group) × (is_good groups ≡ true) × Says (text_of groups) f × (file_of f.bytes ≡ Ok groups)
lasting_override name f (IsLasting.an_object d kind digits at) = absurd (cc at)
lasting_override name f (IsLasting.store_config at says) = absurd (bytes_eq-false (codes "overrides") (codes "repo") refl (ap top at))
lasting_override name f (IsLasting.a_ref origin r commit remote good digits at says) = absurd (cc at)
lasting_override name f (IsLasting.a_made_one above) = absurd (off_top (codes "overrides") (codes "made") (override_path name) refl refl above)
lasting_override name f (IsLasting.an_export above) = absurd (off_top (codes "overrides") (codes "exports") (override_path name) refl refl above)
lasting_override name f (IsLasting.a_record r commit good digits at mode) = absurd (cc at)
lasting_override name f (IsLasting.the_settings s at says) = absurd (cc at)
lasting_override name f (IsLasting.an_override other groups good fine at says) = (groups, fine, says, ap (λ (i : Inode). file_of i.bytes) says ∙ file_of-text_of groups fine)

-- at the path of the store's `config` lasts its one text
pub lasting_config : (f : Inode) → IsLasting (codes "config" ∷ repo) f → Says STORE_CONFIG.now f
lasting_config f (IsLasting.an_object d kind digits at) = absurd (cc at)
lasting_config f (IsLasting.store_config at says) = says
lasting_config f (IsLasting.a_ref origin r commit remote good digits at says) = absurd (cc at)
lasting_config f (IsLasting.a_made_one above) = absurd (off_top (codes "repo") (codes "made") (codes "config" ∷ repo) refl refl above)
lasting_config f (IsLasting.an_export above) = absurd (off_top (codes "repo") (codes "exports") (codes "config" ∷ repo) refl refl above)
lasting_config f (IsLasting.a_record r commit good digits at mode) = absurd (cc at)
lasting_config f (IsLasting.the_settings s at says) = absurd (cc at)
lasting_config f (IsLasting.an_override other groups good fine at says) = absurd (bytes_eq-false (codes "repo") (codes "overrides") refl (ap top at))
