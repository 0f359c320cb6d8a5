-- What is made before a switch spares what is shown.
use Rattle.std.proofs.Common.{◌≡◌, ◌≢◌, ◌⊎◌, inl, inr, ℕ, List, [], ◌∷◌, ◌++◌, Bool, true, false, Some, codes, length, sym, ◌∙◌, ap, subst, arith, Contains}
use Rattle.std.specs.Prelude.{if◌then◌else◌, is_some}
use Rattle.std.proofs.lemmas.Bool.{cond-true}
use Rattle.std.proofs.lemmas.List.{length-append}
use Rattle.std.proofs.lemmas.List.Elements.{Contains-push_cases}
use Rattle.fp_host.specs.Paths.{Elements}
use Rattle.fp_host.specs.View.{View}
use Rattle.fp_host.specs.Outcome.{Spot, gone, folder, points, Disk, Leaves, Follows}
use Rattle.fp_host.proofs.Separate.{head_of, tail_of}
use Rattle.fp_name.specs.declared.kind.RefKind.{RefKind}
use Rattle.fp_name.specs.declared.kind.RefKind.TheVariants.{App, Runtime}
use Rattle.fp_name.specs.Grammar.{is_id, is_arch, is_branch}
use Rattle.fp_name.specs.Hex.{hex, unhex, is_digest}
use Rattle.fp_name.specs.Kinds.{kind_word}
use Rattle.fp_name.specs.Refs.{Ref, is_ref, ref_text, ref_of}
use Rattle.fp_name.proofs.Refs.{ref_of-ref_text}
use Rattle.fp_small.specs.Folders.{ancestors}
use Rattle.fp_small.specs.Places.{repo, tmp}
use Rattle.fp_small.specs.declared.state.State.{State}
use Rattle.ost_model.specs.Standing.{deploy_name}
use Rattle.dep_states.specs.Names.{active, branch_dir, text_dir, commit_dir, deploy}
use Rattle.dep_states.specs.Shown.{there, seen_of, by_active, ref_seen, row_seen, Shows}
use Rattle.dep_states.specs.Zones.{anything, is, IsFileOrGone, Fits, zone, outward, Allowed}
use Rattle.dep_states.specs.Sound.{Keeps, Sound, Fixed, is_remotes, is_pins, is_config, is_old, is_active, is_deploy, is_layer, is_inside, is_object, Permits, Opens, Spares}
use Rattle.dep_states.specs.After.{row_at}
use Rattle.dep_states.proofs.Deployed.{top}
use Rattle.dep_states.proofs.Good.{row_good}
use Rattle.dep_states.proofs.Law.{frame_law}
use Rattle.dep_states.proofs.Sparing.{hex_exact, deploy_commit, repo_spared}
use Rattle.dep_states.proofs.Switching.{none_in_tmp, word_no_repo}
use Rattle.dep_states.proofs.Total.{row_there}
use Rattle.dep_states.proofs.Worked.{active_same}
use Rattle.dep_states.proofs.Zones.{fits_if}
use Rattle.dep_switch.specs.Rows.{IsAt}
use Rattle.dep_switch.specs.Writing.{new_link, FileAt, PreparesAt, a_deploy, a_folder, a_link}

-- ---- what is shown at an `active`

-- a link of the commit's digits at `active` is that of a ref at the commit
pub linked_at : {s : State} {disk : Disk} (name : Ref) (commit : List ℕ) → is_ref name ≡ true → is_digest commit ≡ true → Shows disk s → disk (active name) ≡ points (hex commit) → IsAt s name commit
linked_at {s = s} {disk = disk} name commit good digest shows link =
    let seen : ref_seen disk name ≡ seen_of (row_at s name) = sym (ap (row_seen disk) (ref_of-ref_text name good)) ∙ shows.refs (ref_text name) in
    let told : by_active disk name (disk (active name)) ≡ seen_of (row_at s name) = sym (cond-true (is_ref name) _ _ good) ∙ seen in
    let row = deploy_commit name (hex commit) (disk (deploy (text_dir name (hex commit)))) (row_at s name) (sym (ap (by_active disk name) link) ∙ told) in
    let found : row_seen disk (Some name) ≡ there row.0 = seen ∙ ap seen_of row.1 in
    (row.0, row.1, hex_exact row.0.commit commit (row_good disk row.0 (row_there disk (Some name) row.0 found)).commit digest row.2)

-- ---- the `deploy` of a commit that isn't deployed

fits_any : (b c : Bool) (p : Elements) (spot : Spot) → Fits (if b then anything else (if c then anything else anything)) p spot
fits_any true c p spot = tt
fits_any false true p spot = tt
fits_any false false p spot = tt

fits_deploy : (k : RefKind) (id arch branch text : List ℕ) (p : Elements) (spot : Spot) → Fits (zone (outward (deploy (text ∷ (branch ∷ (arch ∷ (id ∷ (kind_word k ∷ [])))))))) p spot
fits_deploy App id arch branch text p spot = fits_if (is_id id) _ p spot (fits_if (is_arch arch) _ p spot (fits_if (is_branch branch) _ p spot (fits_any (is (codes "active") text) (is_some (unhex text)) p spot)))
fits_deploy Runtime id arch branch text p spot = fits_if (is_id id) _ p spot (fits_if (is_arch arch) _ p spot (fits_if (is_branch branch) _ p spot (fits_any (is (codes "active") text) (is_some (unhex text)) p spot)))

-- a path in the folder of a commit that is a `deploy` is just that
pub inside_deploy : (rest : Elements) (n name : Ref) (c commit : List ℕ) → deploy (commit_dir name commit) ≡ rest ++ commit_dir n c → rest ≡ deploy_name
inside_deploy [] n name c commit e = absurd (cc e)
inside_deploy (x ∷ []) n name c commit e = ap (λ y. y ∷ []) (sym (head_of e))
inside_deploy (x ∷ (y ∷ rest)) n name c commit e =
    let long : length (deploy (commit_dir name commit)) ≡ length ((x ∷ (y ∷ rest)) ++ commit_dir n c) = ap length e in
    let sum = length-append (x ∷ (y ∷ rest)) (commit_dir n c) in
    absurd (omega (arith, long, sum))

same_branch : (a b : Ref) (x y : List ℕ) → deploy (text_dir a x) ≡ deploy (text_dir b y) → (a ≡ b) × (x ≡ y)
same_branch a b x y e = (active_same a b (ap (λ p. codes "active" ∷ p) (tail_of (tail_of e))), head_of (tail_of e))

avoid : {s : State} {v : View} (name : Ref) (commit : List ℕ) → is_digest commit ≡ true → Opens s v → (IsAt s name commit → ⊥) → (disk : Disk) → Leaves v disk → (p : Elements) → Fixed disk p → p ≡ deploy (commit_dir name commit) → ⊥
avoid name commit digest opens off disk left p (is_config e) at = cc (sym at ∙ e)
avoid name commit digest opens off disk left p (is_old none (is_remotes e)) at = cc (sym at ∙ e)
avoid name commit digest opens off disk left p (is_old none (is_pins e)) at = cc (sym at ∙ e)
avoid name commit digest opens off disk left p (is_active n good e) at = cc (sym at ∙ e)
avoid name commit digest opens off disk left p (is_layer n good e) at = cc (sym at ∙ e)
avoid name commit digest opens off disk left p (is_object n c place k h e) at = cc (sym at ∙ e)
avoid name commit digest opens off disk left p (is_inside n c rest k off_deploy e) at = off_deploy (inside_deploy rest n name c commit (sym at ∙ e))
avoid {s = s} name commit digest opens off disk left p (is_deploy n text good link e) at =
    let same = same_branch n name text (hex commit) (sym e ∙ at) in
    off (subst (λ m. IsAt s m commit) same.0 (linked_at {s = s} n commit good digest (opens.shown disk left) (link ∙ ap points same.1)))

pub deploy_spares : {s : State} {v : View} (name : Ref) (commit : List ℕ) → is_digest commit ≡ true → Opens s v → (IsAt s name commit → ⊥) → Spares v (FileAt (deploy (commit_dir name commit)))
deploy_spares {s = s} name commit digest opens off = record {
  avoids = λ disk left p spot f given. avoid {s = s} name commit digest opens off disk left p f given.0;
  permits = λ disk left p spot given. record {
    allowed = subst (λ q. Allowed q spot) (sym given.0) (record { fits = fits_deploy name.kind name.id name.arch name.branch (hex commit) (deploy (commit_dir name commit)) spot; short = inr (omega arith) });
    deploy = λ n c k at. given.1;
  };
}

-- ---- the link and its folders

pub which : (q : Elements) → Contains (ancestors new_link) q → (q ≡ repo) ⊎ (q ≡ tmp)
which q has = elim (Contains-push_cases (repo ∷ []) tmp q has) [
  | inl first ↦ elim (Contains-push_cases [] repo q first) [ inl none ↦ absurd (omega (arith, none.1)) | inr same ↦ inl (sym same) ]
  | inr same ↦ inr (sym same)
]

no_deploy_in_repo : (p : Elements) → top p ≡ codes "repo" → (n : Ref) (c : List ℕ) → p ≡ deploy (commit_dir n c) → ⊥
no_deploy_in_repo p in_repo n c at = word_no_repo n.kind (sym (ap top at) ∙ in_repo)

folder_permitted : (i : Disk) (p : Elements) → (p ≡ repo) ⊎ (p ≡ tmp) → Permits i p folder
folder_permitted i p (inl at) = record { allowed = subst (λ q. Allowed q folder) (sym at) (record { fits = tt; short = inr (omega arith) }); deploy = λ n c k is. absurd (no_deploy_in_repo p (ap top at) n c is) }
folder_permitted i p (inr at) = record { allowed = subst (λ q. Allowed q folder) (sym at) (record { fits = tt; short = inr (omega arith) }); deploy = λ n c k is. absurd (no_deploy_in_repo p (ap top at) n c is) }

module _ {v : View} {path : Elements} (text : List ℕ) (spares : Spares v (FileAt path)) where
  avoids : (disk : Disk) → Leaves v disk → (p : Elements) (spot : Spot) → Fixed disk p → PreparesAt path text p spot → ⊥
  avoids disk left p spot f (a_deploy at fits) = spares.avoids disk left p spot f (at, fits)
  avoids disk left p spot f (a_folder has at) = elim (which p has) [ inl here ↦ repo_spared disk p here f | inr here ↦ none_in_tmp [] here f ]
  avoids disk left p spot f (a_link at here) = none_in_tmp (codes "active" ∷ []) at f

  permits : (disk : Disk) → Leaves v disk → (p : Elements) (spot : Spot) → PreparesAt path text p spot → Permits disk p spot
  permits disk left p spot (a_deploy at fits) = spares.permits disk left p spot (at, fits)
  permits disk left p spot (a_folder has at) = subst (Permits disk p) (sym at) (folder_permitted disk p (which p has))
  permits disk left p spot (a_link at here) = record {
    allowed = subst (λ q. Allowed q spot) (sym at) (record { fits = tt; short = inr (omega arith) });
    deploy = λ n c k is. absurd (no_deploy_in_repo p (ap top at) n c is);
  }

  pub prepares_spares : Spares v (PreparesAt path text)
  prepares_spares = record { avoids = avoids; permits = permits }
