-- In a sound installation nothing is in the way of a remote that is made.
use Rattle.std.proofs.Common.{◌≡◌, inl, inr, ℕ, List, [], ◌∷◌, Bool, true, false, ◌&&◌, Option, Some, None, codes, refl, sym, ◌∙◌, subst}
use Rattle.std.specs.Prelude.{if◌then◌else◌, is_some, take}
use Rattle.fp_name.specs.Hex.{hex, is_digest}
use Rattle.fp_small.specs.Places.{repo, tmp}
use Rattle.ost_model.specs.Stores.{is_prefix}
use Rattle.std.proofs.lemmas.Bool.{and_parts}
use Rattle.fp_host.specs.Paths.{Elements, Slot, absent, dir, file, link, IsAbove}
use Rattle.fp_host.specs.View.{View, IsTree, Inode}
use Rattle.fp_host.specs.Outcome.{Spot, spot_of, holding, shows}
use Rattle.fp_host.proofs.Settled.{at_tree}
use Rattle.fp_host.proofs.Shown.{now_left}
use Rattle.fp_name.specs.declared.kind.RefKind.{RefKind}
use Rattle.fp_name.specs.declared.kind.RefKind.TheVariants.{App, Runtime}
use Rattle.fp_name.specs.Grammar.{is_id, is_arch, is_branch}
use Rattle.fp_name.specs.Kinds.{kind_of, kind_word}
use Rattle.fp_name.specs.Refs.{Ref, is_ref}
use Rattle.fp_small.specs.Folders.{IsFree}
use Rattle.fp_small.specs.Replace.{IsFreeFile}
use Rattle.ost_model.specs.Objects.{object_path}
use Rattle.ost_store.proofs.Elements.{prefix_is_one}
use Rattle.ost_store.specs.ObjectNames.{IsAboveObject}
use Rattle.ost_export.specs.Exports.{config_path, ref_path, IsFolderAbove}
use Rattle.dep_states.specs.Sound.{IsSound}
use Rattle.dep_states.specs.Zones.{Zone, anything, a_folder, a_file, Fits, Allowed, IsFileOrGone, IsFolderOrGone}
use Rattle.fl_make.specs.Making.{remote_store, CanMake}

-- the first side, where the test holds
then_fits : (b : Bool) (y n : Zone) (p : Elements) (spot : Spot) → b ≡ true → Fits (if b then y else n) p spot → Fits y p spot
then_fits true y n p spot is fits = fits
then_fits false y n p spot is fits = absurd (cc is)

module _ (v : View) (tree : IsTree v) (p : Elements) where
  seen : (P : Spot → Type 0) (e : Slot) → v.names p ≡ e → P (shows v p) → P (spot_of v.files e)
  seen P e is at = subst (λ (x : Slot). P (spot_of v.files x)) (at_tree v tree p ∙ is) at

  file_by : (e : Slot) → v.names p ≡ e → IsFileOrGone (spot_of v.files e) → IsFreeFile p v
  file_by absent is at = inl is
  file_by dir is at = absurd at
  file_by (file id) is at = inr (id, is)
  file_by (link text) is at = absurd at

  free_file : IsFileOrGone (shows v p) → IsFreeFile p v
  free_file at = file_by (v.names p) refl (seen IsFileOrGone (v.names p) refl at)

  no_file : (id : ℕ) (row : Option Inode) → v.files id ≡ row → v.names p ≡ file id → IsFolderOrGone (holding id row) → ⊥
  no_file id None none is at = tree.known p id (inl (sym is)) none
  no_file id (Some f) some is at = at

  folder_by : (e : Slot) → v.names p ≡ e → IsFolderOrGone (spot_of v.files e) → IsFree v p
  folder_by absent is at = inl is
  folder_by dir is at = inr is
  folder_by (file id) is at = absurd (no_file id (v.files id) refl is at)
  folder_by (link text) is at = absurd at

  free_folder : IsFolderOrGone (shows v p) → IsFree v p
  free_folder at = folder_by (v.names p) refl (seen IsFolderOrGone (v.names p) refl at)

kind_is_one : (k : RefKind) → is_some (kind_of (kind_word k)) ≡ true
kind_is_one App = refl
kind_is_one Runtime = refl

module _ (v : View) (remote : List ℕ) (r : Ref) (tree : IsTree v) (sound : IsSound v) (good : is_ref r ≡ true) where
  allowed : (p : Elements) → Allowed p (shows v p)
  allowed p = (sound.sound (shows v) (now_left v)).kinds p

  id_good : is_id r.id ≡ true
  id_good = (and_parts (is_id r.id) (is_arch r.arch && is_branch r.branch) good).0

  arch_good : is_arch r.arch ≡ true
  arch_good = (and_parts (is_arch r.arch) (is_branch r.branch) (and_parts (is_id r.id) (is_arch r.arch && is_branch r.branch) good).1).0

  branch_good : is_branch r.branch ≡ true
  branch_good = (and_parts (is_arch r.arch) (is_branch r.branch) (and_parts (is_id r.id) (is_arch r.arch && is_branch r.branch) good).1).1

  abbrev IsFreeAt : Elements → Type 0
  IsFreeAt q = IsFree v q

  -- folders above the store, and it
  by_store : (q : Elements) → IsAbove q (remote_store remote) → IsFree v q
  by_store q (inl is) = subst IsFreeAt (sym is) (free_folder v tree (codes "made" ∷ []) (allowed (codes "made" ∷ [])).fits)
  by_store q (inr (inl is)) = subst IsFreeAt (sym is) (inr tree.root)
  by_store q (inr (inr none)) = absurd none

  store_free : IsFree v (remote_store remote)
  store_free = free_folder v tree (remote_store remote) (allowed (remote_store remote)).fits

  prefix_free : (d : List ℕ) → is_digest d ≡ true → IsFree v (take 2 (hex d) ∷ (codes "objects" ∷ remote_store remote))
  prefix_free d digits =
      let p : Elements = take 2 (hex d) ∷ (codes "objects" ∷ remote_store remote) in
      free_folder v tree p (then_fits (is_prefix (take 2 (hex d))) a_folder anything p (shows v p) (prefix_is_one d digits) (allowed p).fits)

  -- the zone after the tests of a ref's parts, which hold
  by_kind : (z : Zone) (p : Elements) → Fits (if is_some (kind_of (kind_word r.kind)) then z else anything) p (shows v p) → Fits z p (shows v p)
  by_kind z p fits = then_fits (is_some (kind_of (kind_word r.kind))) z anything p (shows v p) (kind_is_one r.kind) fits

  by_id : (z : Zone) (p : Elements) → Fits (if is_id r.id then z else anything) p (shows v p) → Fits z p (shows v p)
  by_id z p fits = then_fits (is_id r.id) z anything p (shows v p) id_good fits

  by_arch : (z : Zone) (p : Elements) → Fits (if is_arch r.arch then z else anything) p (shows v p) → Fits z p (shows v p)
  by_arch z p fits = then_fits (is_arch r.arch) z anything p (shows v p) arch_good fits

  by_branch : (z : Zone) (p : Elements) → Fits (if is_branch r.branch then z else anything) p (shows v p) → Fits z p (shows v p)
  by_branch z p fits = then_fits (is_branch r.branch) z anything p (shows v p) branch_good fits

  abbrev after_arch : Zone → Zone
  after_arch z = if is_arch r.arch then z else anything

  abbrev after_id : Zone → Zone
  after_id z = if is_id r.id then z else anything

  abbrev after_branch : Zone → Zone
  after_branch z = if is_branch r.branch then z else anything

  abbrev kind_path : Elements
  kind_path = kind_word r.kind ∷ (codes "heads" ∷ (codes "refs" ∷ remote_store remote))

  kind_free : IsFree v kind_path
  kind_free = free_folder v tree kind_path (by_kind a_folder kind_path (allowed kind_path).fits)

  id_free : IsFree v (r.id ∷ kind_path)
  id_free = let p : Elements = r.id ∷ kind_path in free_folder v tree p (by_id a_folder p (by_kind (after_id a_folder) p (allowed p).fits))

  arch_free : IsFree v (r.arch ∷ (r.id ∷ kind_path))
  arch_free = let p : Elements = r.arch ∷ (r.id ∷ kind_path) in free_folder v tree p (by_arch a_folder p (by_id (after_arch a_folder) p (by_kind (after_id (after_arch a_folder)) p (allowed p).fits)))

  by_object : (q : Elements) (o : IsAboveObject (remote_store remote) q) → IsAbove q (object_path (remote_store remote) o.digest o.kind) → IsFree v q
  by_object q o (inl is) = subst IsFreeAt (sym is) (prefix_free o.digest o.digits)
  by_object q o (inr (inl is)) = subst IsFreeAt (sym is) (free_folder v tree (codes "objects" ∷ remote_store remote) (allowed (codes "objects" ∷ remote_store remote)).fits)
  by_object q o (inr (inr (inl is))) = subst IsFreeAt (sym is) store_free
  by_object q o (inr (inr (inr up))) = by_store q up

  by_ref : (q : Elements) → IsAbove q (ref_path (remote_store remote) r) → IsFree v q
  by_ref q (inl is) = subst IsFreeAt (sym is) arch_free
  by_ref q (inr (inl is)) = subst IsFreeAt (sym is) id_free
  by_ref q (inr (inr (inl is))) = subst IsFreeAt (sym is) kind_free
  by_ref q (inr (inr (inr (inl is)))) = subst IsFreeAt (sym is) (free_folder v tree (codes "heads" ∷ (codes "refs" ∷ remote_store remote)) (allowed (codes "heads" ∷ (codes "refs" ∷ remote_store remote))).fits)
  by_ref q (inr (inr (inr (inr (inl is))))) = subst IsFreeAt (sym is) (free_folder v tree (codes "refs" ∷ remote_store remote) (allowed (codes "refs" ∷ remote_store remote)).fits)
  by_ref q (inr (inr (inr (inr (inr (inl is)))))) = subst IsFreeAt (sym is) store_free
  by_ref q (inr (inr (inr (inr (inr (inr up)))))) = by_store q up

  folders_free : (q : Elements) → IsFolderAbove (remote_store remote) r q → IsFree v q
  folders_free q (inl (inl object)) = by_object q object object.above
  folders_free q (inl (inr (inl is))) = subst IsFreeAt (sym is) (free_folder v tree repo (allowed repo).fits)
  folders_free q (inl (inr (inr is))) = subst IsFreeAt (sym is) (free_folder v tree tmp (allowed tmp).fits)
  folders_free q (inr up) = by_ref q up

  pub can_make : CanMake remote r v
  can_make = record {
    config = free_file v tree (config_path (remote_store remote)) (allowed (config_path (remote_store remote))).fits;
    ref = let p : Elements = ref_path (remote_store remote) r in free_file v tree p (by_branch a_file p (by_arch (after_branch a_file) p (by_id (after_arch (after_branch a_file)) p (by_kind (after_id (after_arch (after_branch a_file))) p (allowed p).fits))));
    folders = folders_free;
  }
