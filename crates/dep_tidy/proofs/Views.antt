-- What a view tells of its outcomes, and the other way round.
use Rattle.std.proofs.Common.{◌≡◌, ◌≢◌, ◌⊎◌, inl, inr, ℕ, [], ◌∷◌, Option, Some, None, refl, sym, ◌∙◌, ap, subst}
use Rattle.fp_host.specs.Paths.{Elements, Slot, absent, dir, file, link, under, at}
use Rattle.fp_host.specs.View.{View, Inode, IsTree}
use Rattle.fp_host.specs.Calls.{IsNoDir, IsFile}
use Rattle.fp_host.specs.Outcome.{gone, folder, holding, spot_of, shows}
use Rattle.fp_host.proofs.Separate.{absent_cases}
use Rattle.fp_host.proofs.Settled.{at_tree}
use Rattle.fp_small.specs.Files.{KeepsFiles}
use Rattle.fp_small.specs.Folders.{IsFree}
use Rattle.fp_small.specs.Replace.{IsFreeFile}
use Rattle.ost_store.proofs.Staying.{same_shows}
use Rattle.dep_states.specs.Zones.{IsFileOrGone, IsFolderOrGone}
use Rattle.dep_states.proofs.Zones.{free_of}

held_there : (id : ℕ) (row : Option Inode) → row ≢ None → holding id row ≡ gone → ⊥
held_there id None some is = some refl
held_there id (Some f) some is = cc is

held_no_folder : (id : ℕ) (row : Option Inode) → holding id row ≡ folder → ⊥
held_no_folder id None is = cc is
held_no_folder id (Some f) is = cc is

slot_there : (files : ℕ → Option Inode) (e : Slot) → ((id : ℕ) → e ≡ file id → files id ≢ None) → e ≢ absent → spot_of files e ≡ gone → ⊥
slot_there files absent known some is = some refl
slot_there files dir known some is = cc is
slot_there files (link text) known some is = cc is
slot_there files (file id) known some is = held_there id (files id) (known id refl) is

no_dir_of : (files : ℕ → Option Inode) (e : Slot) → IsFileOrGone (spot_of files e) → IsNoDir e
no_dir_of files absent fits = tt
no_dir_of files dir fits = absurd fits
no_dir_of files (file id) fits = tt
no_dir_of files (link text) fits = tt

free_file_of : (files : ℕ → Option Inode) (e : Slot) → IsFileOrGone (spot_of files e) → (e ≡ absent) ⊎ IsFile e
free_file_of files absent fits = inl refl
free_file_of files dir fits = absurd fits
free_file_of files (file id) fits = inr (id, refl)
free_file_of files (link text) fits = absurd fits

module _ {v : View} (tree : IsTree v) (q : Elements) where
  shown_at : shows v q ≡ spot_of v.files (v.names q)
  shown_at = ap (spot_of v.files) (at_tree v tree q)

  known_at : (id : ℕ) → v.names q ≡ file id → v.files id ≢ None
  known_at id is = tree.known q id (inl (sym is))

  -- what has a name shows
  pub shown_there : v.names q ≢ absent → shows v q ≡ gone → ⊥
  shown_there some none = slot_there v.files (v.names q) known_at some (sym shown_at ∙ none)

  pub gone_absent : shows v q ≡ gone → v.names q ≡ absent
  gone_absent none = elim (absent_cases (v.names q)) [ inl is ↦ is | inr some ↦ absurd (shown_there some none) ]

  pub absent_gone : v.names q ≡ absent → shows v q ≡ gone
  absent_gone none = shown_at ∙ ap (spot_of v.files) none

  pub some_there : shows v q ≢ gone → v.names q ≢ absent
  some_there some none = some (absent_gone none)

  pub no_dir_by : IsFileOrGone (shows v q) → IsNoDir (v.names q)
  no_dir_by fits = no_dir_of v.files (v.names q) (subst IsFileOrGone shown_at fits)

  pub free_file_by : IsFileOrGone (shows v q) → IsFreeFile q v
  free_file_by fits = free_file_of v.files (v.names q) (subst IsFileOrGone shown_at fits)

  pub free_by : IsFolderOrGone (shows v q) → IsFree v q
  free_by fits = free_of v.files (v.names q) known_at (subst IsFolderOrGone shown_at fits)

pub all_shows : {u v : View} → IsTree u → IsTree v → KeepsFiles u v → ((q : Elements) → v.names q ≡ u.names q) → shows v ≡ shows u
all_shows {u = u} {v = v} tree next files names = λ i q. same_shows tree next files q (names q) i

-- ---- along a path

-- the same at the path and at each folder above it
abbrev pub SameTo : (Elements → Slot) → (Elements → Slot) → Elements → Type 0
SameTo n m [] = m [] ≡ n []
SameTo n m (x ∷ up) = (m (x ∷ up) ≡ n (x ∷ up)) × SameTo n m up

at_same : (n m : Elements → Slot) (p : Elements) → SameTo n m p → at m p ≡ at n p
at_same n m [] same = same
at_same n m (x ∷ up) same = (λ i. under (at_same n m up same.1 i) (same.0 i))

held_same : (a b : Option Inode) (id : ℕ) → a ≢ None → ((f : Inode) → a ≡ Some f → b ≡ Some f) → holding id b ≡ holding id a
held_same None b id some same = absurd (some refl)
held_same (Some f) b id some same = ap (holding id) (same f refl)

-- where the names along a path are the same and files stay, the same shows, also before it is known
-- that all is a tree
pub shows_along : {u w : View} → IsTree u → KeepsFiles u w → (p : Elements) → SameTo u.names w.names p → shows w p ≡ shows u p
shows_along {u = u} {w = w} tree files p same = ap (spot_of w.files) (at_same u.names w.names p same) ∙ spots (at u.names p) (at_tree u tree p)
  where
    spots : (e : Slot) → e ≡ u.names p → spot_of w.files e ≡ spot_of u.files e
    spots absent is = refl
    spots dir is = refl
    spots (link text) is = refl
    spots (file id) is = held_same (u.files id) (w.files id) id (tree.known p id (inl is)) (λ f some. files.rows id f some)

pub all_same_to : (n m : Elements → Slot) → ((q : Elements) → m q ≡ n q) → (p : Elements) → SameTo n m p
all_same_to n m same [] = same []
all_same_to n m same (x ∷ up) = (same (x ∷ up), all_same_to n m same up)
