-- A commit that is laid out in a folder that isn't kept spares what is shown.
use Rattle.std.proofs.Common.{◌≡◌, ◌≤◌, inl, inr, ℕ, List, [], ◌∷◌, ◌++◌, Bool, true, false, Option, Some, None, codes, length, refl, sym, ◌∙◌, ap, subst, arith}
use Rattle.std.specs.Prelude.{if◌then◌else◌}
use Rattle.std.proofs.lemmas.List.{length-append}
use Rattle.fp_host.specs.Paths.{Elements, IsAbove}
use Rattle.fp_host.specs.View.{View, IsTree}
use Rattle.fp_host.specs.Outcome.{Spot, folder, Disk, shows}
use Rattle.fp_name.specs.Grammar.{is_id, is_arch, is_branch}
use Rattle.fp_name.specs.Hex.{is_digest}
use Rattle.fp_name.specs.Kinds.{kind_word}
use Rattle.fp_name.specs.Refs.{Ref}
use Rattle.fp_name.specs.declared.kind.RefKind.{RefKind}
use Rattle.fp_name.specs.declared.kind.RefKind.TheVariants.{App, Runtime}
use Rattle.fp_name.proofs.Refs.{word_apart}
use Rattle.fp_small.specs.Folders.{ancestors, FoldersAt}
use Rattle.fp_small.specs.Places.{repo}
use Rattle.fp_small.specs.declared.state.State.{State}
use Rattle.fp_small.proofs.Replacement.{ancestors_above}
use Rattle.ost_model.specs.Fields.{CommitView}
use Rattle.ost_model.specs.Look.{Found, nothing, directory, file_at, next, at_root, look}
use Rattle.ost_model.specs.Objects.{Have, store}
use Rattle.ost_model.specs.Order.{commit_at, first_fault}
use Rattle.ost_model.proofs.Looked.{reached_at}
use Rattle.ost_checkout.specs.Checkout.{SpotOf, ChecksOutAt, ChecksOut}
use Rattle.dep_states.specs.Frames.{KeptIn, InDir}
use Rattle.dep_states.specs.Names.{commit_dir, branch_dir, deploy, active, text_dir}
use Rattle.dep_states.specs.Sound.{Fixed, IsOld, is_config, is_old, is_remotes, is_pins, is_active, is_deploy, is_layer, is_inside, is_object, Permits, Opens, Spares}
use Rattle.dep_states.specs.Zones.{Zone, anything, Allowed, Fits, IsFolderOrGone, zone, outward}
use Rattle.dep_states.proofs.Deployed.{top}
use Rattle.dep_states.proofs.Law.{frame_law}
use Rattle.dep_states.proofs.Sparing.{dir_spares, spares_to}
use Rattle.dep_states.proofs.Switching.{word_no_repo}
use Rattle.op_change.specs.LayingOut.{MakesAbove, LaysOut, folders_come, paths_come}
use Rattle.op_change.proofs.Apart.{object_not_above, dir_apart}
use Rattle.op_change.proofs.LaidOut.{store_stays}
use Rattle.op_change.proofs.PlainBringing.{plain_spared, plain_permitted}

-- ---- what is found is as deep as directories may be

pub found_short : (have : Have) (commit : List ℕ) → first_fault have commit ≡ None → (rest : Elements) → (look have commit rest ≡ nothing → ⊥) → length rest ≤ 66
found_short have commit none [] some = omega arith
found_short have commit none (x ∷ up) some = go (look have commit up) refl
  where
    go : (f : Found) → look have commit up ≡ f → length (x ∷ up) ≤ 66
    go nothing at = absurd (some (ap (next have x) at))
    go (file_at d) at = absurd (some (ap (next have x) at))
    go (directory e) at = let r = reached_at have commit none up e at in omega (arith, r.0.sum, r.1)

root_folder : (v : View) (c : Option CommitView) (spot : Spot) → SpotOf repo v (at_root c) spot → IsFolderOrGone spot
root_folder v None spot may = absurd may
root_folder v (Some c) spot may = subst IsFolderOrGone (sym may) tt

module _ {s : State} {v : View} (name : Ref) (commit : List ℕ) (digits : is_digest commit ≡ true) (opens : Opens s v) (unkept : KeptIn s name commit → ⊥) (whole : first_fault (store repo (shows v)) commit ≡ None) where
  in_dir : (p : Elements) (spot : Spot) → ChecksOutAt repo commit (commit_dir name commit) v p spot → InDir name commit p spot
  in_dir p spot given =
      let short = found_short (store repo (shows v)) commit whole given.rest (λ none. subst (λ (f : Found). SpotOf repo v f spot) none given.may) in
      record {
        rest = given.rest;
        is = given.at;
        short = omega (arith, ap length given.at, length-append given.rest (commit_dir name commit), short);
        itself = λ e. root_folder v (commit_at (store repo (shows v)) commit) spot (subst (λ (r : Elements). SpotOf repo v (look (store repo (shows v)) commit r) spot) e given.may);
      }

  lay_spares : Spares v (ChecksOutAt repo commit (commit_dir name commit) v)
  lay_spares = spares_to in_dir (dir_spares digits opens unkept)

  pub checks_opens : {w : View} → ChecksOut repo commit (commit_dir name commit) v w → Opens s w
  checks_opens checks = frame_law lay_spares (checks.keeps (dir_apart name commit)).follows opens

-- ---- the folders above it

-- nothing that is fixed is so short and below the folder of a kind
old_apart : (k : RefKind) (p : Elements) → top p ≡ kind_word k → IsOld p → ⊥
old_apart k p at (is_remotes e) = word_apart k (codes "remotes.conf") refl refl (sym at ∙ ap top e)
old_apart k p at (is_pins e) = word_apart k (codes "pins") refl refl (sym at ∙ ap top e)

short_spared : (i : Disk) (k : RefKind) (p : Elements) → top p ≡ kind_word k → length p ≤ 4 → Fixed i p → ⊥
short_spared i k p at short (is_config e) = word_apart k (codes "config") refl refl (sym at ∙ ap top e)
short_spared i k p at short (is_old none old) = old_apart k p at old
short_spared i k p at short (is_active name good e) = let long : length p ≡ length (active name) = ap length e in absurd (omega (arith, long, short))
short_spared i k p at short (is_deploy name text good link e) = let long : length p ≡ length (deploy (text_dir name text)) = ap length e in absurd (omega (arith, long, short))
short_spared i k p at short (is_layer name good e) = word_apart k (codes "overrides") refl refl (sym at ∙ ap top e)
short_spared i k p at short (is_inside name commit rest kept off e) =
    let long : length p ≡ length (rest ++ commit_dir name commit) = ap length e in
    let sum = length-append rest (commit_dir name commit) in
    absurd (omega (arith, long, sum, short))
short_spared i k p at short (is_object name commit place kept h e) = word_no_repo k (sym at ∙ ap top e)

fits_if : (b : Bool) (z : Zone) (p : Elements) → Fits z p folder → Fits (if b then z else anything) p folder
fits_if true z p f = f
fits_if false z p f = tt

fits_kind : (k : RefKind) (p : Elements) → Fits (zone (kind_word k ∷ [])) p folder
fits_kind App p = tt
fits_kind Runtime p = tt

fits_id : (k : RefKind) (id : List ℕ) (p : Elements) → Fits (zone (kind_word k ∷ (id ∷ []))) p folder
fits_id App id p = fits_if (is_id id) _ p tt
fits_id Runtime id p = fits_if (is_id id) _ p tt

fits_arch : (k : RefKind) (id arch : List ℕ) (p : Elements) → Fits (zone (kind_word k ∷ (id ∷ (arch ∷ [])))) p folder
fits_arch App id arch p = fits_if (is_id id) _ p (fits_if (is_arch arch) _ p tt)
fits_arch Runtime id arch p = fits_if (is_id id) _ p (fits_if (is_arch arch) _ p tt)

fits_branch : (k : RefKind) (id arch branch : List ℕ) (p : Elements) → Fits (zone (kind_word k ∷ (id ∷ (arch ∷ (branch ∷ []))))) p folder
fits_branch App id arch branch p = fits_if (is_id id) _ p (fits_if (is_arch arch) _ p (fits_if (is_branch branch) _ p tt))
fits_branch Runtime id arch branch p = fits_if (is_id id) _ p (fits_if (is_arch arch) _ p (fits_if (is_branch branch) _ p tt))

short_permitted : (i : Disk) (p q : Elements) (spot : Spot) → p ≡ q → length q ≤ 4 → Fits (zone (outward q)) q folder → spot ≡ folder → Permits i p spot
short_permitted i p q spot at short fits is = record {
  allowed = subst (λ (r : Elements). Allowed r spot) (sym at) (subst (Allowed q) (sym is) (record { fits = fits; short = inr (omega (arith, short)) }));
  deploy = λ n c k e. let long : length p ≡ length (deploy (commit_dir n c)) = ap length e in absurd (omega (arith, long, ap length at, short));
}

module _ (name : Ref) (commit : List ℕ) where
  -- one of the folders above the commit's, or the root
  above_spared : (i : Disk) (p : Elements) → IsAbove p (commit_dir name commit) → Fixed i p → ⊥
  above_spared i p (inl at) f = short_spared i name.kind p (ap top at) (omega (arith, ap length at)) f
  above_spared i p (inr (inl at)) f = short_spared i name.kind p (ap top at) (omega (arith, ap length at)) f
  above_spared i p (inr (inr (inl at))) f = short_spared i name.kind p (ap top at) (omega (arith, ap length at)) f
  above_spared i p (inr (inr (inr (inl at)))) f = short_spared i name.kind p (ap top at) (omega (arith, ap length at)) f
  above_spared i p (inr (inr (inr (inr (inl at))))) f = plain_spared i p (inl at) f
  above_spared i p (inr (inr (inr (inr (inr none))))) f = none

  above_permitted : (i : Disk) (p : Elements) (spot : Spot) → IsAbove p (commit_dir name commit) → spot ≡ folder → Permits i p spot
  above_permitted i p spot (inl at) is = short_permitted i p (branch_dir name) spot at (omega arith) (fits_branch name.kind name.id name.arch name.branch (branch_dir name)) is
  above_permitted i p spot (inr (inl at)) is = short_permitted i p (name.arch ∷ (name.id ∷ (kind_word name.kind ∷ []))) spot at (omega arith) (fits_arch name.kind name.id name.arch _) is
  above_permitted i p spot (inr (inr (inl at))) is = short_permitted i p (name.id ∷ (kind_word name.kind ∷ [])) spot at (omega arith) (fits_id name.kind name.id _) is
  above_permitted i p spot (inr (inr (inr (inl at)))) is = short_permitted i p (kind_word name.kind ∷ []) spot at (omega arith) (fits_kind name.kind _) is
  above_permitted i p spot (inr (inr (inr (inr (inl at))))) is = plain_permitted i p spot (inl at) is
  above_permitted i p spot (inr (inr (inr (inr (inr none))))) is = absurd none

  made_spares : {v : View} → Spares v (FoldersAt (ancestors (commit_dir name commit)))
  made_spares = record {
    avoids = λ disk left p spot f given. above_spared disk p (ancestors_above (commit_dir name commit) p given.0) f;
    permits = λ disk left p spot given. above_permitted disk p spot (ancestors_above (commit_dir name commit) p given.0) given.1;
  }

  pub made_opens : {s : State} {u w : View} → MakesAbove (commit_dir name commit) u w → Opens s u → Opens s w
  made_opens made opens = frame_law made_spares made.follows opens

-- ---- both

pub lays_opens : {s : State} {u w : View} (name : Ref) (commit : List ℕ) → is_digest commit ≡ true → (KeptIn s name commit → ⊥) → IsTree u → first_fault (store repo (shows u)) commit ≡ None
    → LaysOut commit (commit_dir name commit) u w → Opens s u → Opens s w
lays_opens name commit digits unkept tree whole (folders_come made) opens = made_opens name commit made opens
lays_opens {s = s} name commit digits unkept tree whole (paths_come between tree_between made checks) opens =
    checks_opens name commit digits (made_opens name commit made opens) unkept
    (ap (λ (have : Have). first_fault have commit) (store_stays (commit_dir name commit) tree tree_between made (object_not_above name commit)) ∙ whole) checks
