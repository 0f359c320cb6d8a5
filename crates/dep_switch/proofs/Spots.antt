-- What stands at a path of a view, by what its name holds.
use Rattle.std.proofs.Common.{◌≡◌, ◌≢◌, ◌⊎◌, inl, inr, ℕ, List, Option, Some, None, refl, sym, ◌∙◌, ap, subst}
use Rattle.fp_host.specs.Paths.{Elements, Slot, absent, dir, file, link, at}
use Rattle.fp_host.specs.View.{View, Inode, IsTree}
use Rattle.fp_host.specs.Calls.{IsFile, IsNoDir}
use Rattle.fp_host.specs.Outcome.{Spot, gone, folder, holds, points, Disk, holding, spot_of, shows}
use Rattle.fp_host.proofs.Settled.{at_tree}
use Rattle.fp_small.specs.Files.{KeepsFiles}
use Rattle.fp_small.specs.Folders.{IsFree}
use Rattle.fp_small.specs.Replace.{IsFreeFile}
use Rattle.dep_states.specs.Zones.{IsFileOrGone, IsLinkOrGone, IsFolderOrGone}

file_there : (id : ℕ) (row : Option Inode) → (row ≡ None → ⊥) → (f : Inode) × (row ≡ Some f)
file_there id None some = absurd (some refl)
file_there id (Some f) some = (f, refl)

module _ {v : View} (tree : IsTree v) (q : Elements) where
  pub shown_at : shows v q ≡ spot_of v.files (v.names q)
  shown_at = ap (spot_of v.files) (at_tree v tree q)

  row_at : (id : ℕ) → v.names q ≡ file id → (f : Inode) × (v.files id ≡ Some f)
  row_at id is = file_there id (v.files id) (tree.known q id (inl (sym is)))

  gone_by : (e : Slot) → v.names q ≡ e → spot_of v.files e ≡ gone → e ≡ absent
  gone_by absent is none = refl
  gone_by dir is none = absurd (cc none)
  gone_by (link text) is none = absurd (cc none)
  gone_by (file id) is none = let row = row_at id is in absurd (cc (sym (ap (holding id) row.1) ∙ none))

  pub gone_absent : shows v q ≡ gone → v.names q ≡ absent
  gone_absent none = gone_by (v.names q) refl (sym shown_at ∙ none)

  folder_by : (e : Slot) → v.names q ≡ e → spot_of v.files e ≡ folder → e ≡ dir
  folder_by absent is there = absurd (cc there)
  folder_by dir is there = refl
  folder_by (link text) is there = absurd (cc there)
  folder_by (file id) is there = let row = row_at id is in absurd (cc (sym (ap (holding id) row.1) ∙ there))

  pub folder_dir : shows v q ≡ folder → v.names q ≡ dir
  folder_dir there = folder_by (v.names q) refl (sym shown_at ∙ there)

  free_by : (e : Slot) → v.names q ≡ e → IsFolderOrGone (spot_of v.files e) → (e ≡ absent) ⊎ (e ≡ dir)
  free_by absent is fits = inl refl
  free_by dir is fits = inr refl
  free_by (link text) is fits = absurd fits
  free_by (file id) is fits = let row = row_at id is in absurd (subst IsFolderOrGone (ap (holding id) row.1) fits)

  pub folder_free : IsFolderOrGone (shows v q) → IsFree v q
  folder_free fits = free_by (v.names q) refl (subst IsFolderOrGone shown_at fits)

  file_by : (e : Slot) → IsFileOrGone (spot_of v.files e) → (e ≡ absent) ⊎ IsFile e
  file_by absent fits = inl refl
  file_by dir fits = absurd fits
  file_by (link text) fits = absurd fits
  file_by (file id) fits = inr (id, refl)

  pub file_free : IsFileOrGone (shows v q) → IsFreeFile q v
  file_free fits = file_by (v.names q) (subst IsFileOrGone shown_at fits)

  no_dir_by : (e : Slot) → v.names q ≡ e → IsLinkOrGone (spot_of v.files e) → (e ≡ absent) ⊎ ((text : List ℕ) × (e ≡ link text))
  no_dir_by absent is fits = inl refl
  no_dir_by dir is fits = absurd fits
  no_dir_by (link text) is fits = inr (text, refl)
  no_dir_by (file id) is fits = let row = row_at id is in absurd (subst IsLinkOrGone (ap (holding id) row.1) fits)

  pub link_free : IsLinkOrGone (shows v q) → (v.names q ≡ absent) ⊎ ((text : List ℕ) × (v.names q ≡ link text))
  link_free fits = no_dir_by (v.names q) refl (subst IsLinkOrGone shown_at fits)

pub leaf_no_dir : (e : Slot) → (e ≡ absent) ⊎ ((text : List ℕ) × (e ≡ link text)) → IsNoDir e
leaf_no_dir e (inl is) = subst IsNoDir (sym is) tt
leaf_no_dir e (inr is) = subst IsNoDir (sym is.1) tt

-- a name that holds what it held shows what it showed, where the files that were there are as they
-- were
module _ {u w : View} (before : IsTree u) (after : IsTree w) (files : KeepsFiles u w) (q : Elements) where
  spot_by : (e : Slot) → u.names q ≡ e → spot_of w.files e ≡ spot_of u.files e
  spot_by absent is = refl
  spot_by dir is = refl
  spot_by (link text) is = refl
  spot_by (file id) is = let row = row_at before q id is in ap (holding id) (files.rows id row.0 row.1 ∙ sym row.1)

  pub same_shown : w.names q ≡ u.names q → shows w q ≡ shows u q
  same_shown same = shown_at after q ∙ ap (spot_of w.files) same ∙ spot_by (u.names q) refl ∙ sym (shown_at before q)
