-- What is asked before a switch can be met.
use Rattle.std.proofs.Common.{◌≡◌, ◌≢◌, ◌⊎◌, inl, inr, ℕ, List, [], ◌∷◌, ◌++◌, Bool, true, false, Option, Some, None, codes, refl, sym, ◌∙◌, ap, subst}
use Rattle.std.specs.Prelude.{if◌then◌else◌}
use Rattle.std.proofs.lemmas.Bool.{cases_Bool, cond-true, cond-false, false_from_ne_true}
use Rattle.fp_host.specs.Paths.{Elements, absent, path_eq}
use Rattle.fp_host.specs.View.{View, IsTree}
use Rattle.fp_host.specs.Outcome.{Spot, gone, Disk, IsSettled, shows}
use Rattle.fp_host.proofs.Separate.{path_decides}
use Rattle.fp_name.specs.Refs.{Ref}
use Rattle.fp_small.specs.Places.{repo}
use Rattle.fp_small.specs.declared.state.State.{State}
use Rattle.ost_model.specs.Objects.{object_path}
use Rattle.ost_model.specs.Standing.{Stands}
use Rattle.ost_model.proofs.Local.{stands_same}
use Rattle.dep_states.specs.Names.{active, commit_dir, deploy}
use Rattle.dep_states.specs.Deployed.{platform, commit, deployed_disk, deployed_state, deployed_row}
use Rattle.dep_states.specs.Shown.{Shows}
use Rattle.dep_states.specs.Sound.{reads_as, Keeps, Sound, Fixed, Permits, Opens}
use Rattle.dep_states.specs.Switch.{IsWith, Changed}
use Rattle.dep_states.specs.Zones.{IsFileOrGone}
use Rattle.dep_states.proofs.Changes as changes
use Rattle.dep_states.proofs.Deployed.{row_is, deployed_sound, deployed_shows}
use Rattle.dep_states.proofs.Openings.{shown_opens}
use Rattle.dep_states.proofs.Switch.{retired, shows_changed, sound_changed, inside_apart, deploy_apart, length_apart}
use Rattle.dep_states.proofs.Switching.{permits_gone}
use Rattle.dep_states.proofs.Total.{ref_is}
use Rattle.dep_switch.specs.Samples.{undeployed_disk, undeployed_state}
use Rattle.dep_switch.specs.Staging.{CanStage}
use Rattle.dep_switch.specs.Writing.{new_link}
use Rattle.dep_switch.proofs.Spots.{gone_absent, file_free}

now_gone : undeployed_disk (active platform) ≡ gone
now_gone = cond-true (path_eq (active platform) (active platform)) gone (deployed_disk (active platform)) ((path_decides (active platform) (active platform)).1 refl)

same_off : (p : Elements) → p ≢ active platform → undeployed_disk p ≡ deployed_disk p
same_off p off = cond-false (path_eq p (active platform)) gone (deployed_disk p) (false_from_ne_true (path_eq p (active platform)) (λ t. off ((path_decides p (active platform)).0 t)))

elsewhere : (p : Elements) → (undeployed_disk p ≡ deployed_disk p) ⊎ Permits deployed_disk p (undeployed_disk p)
elsewhere p = elim (cases_Bool (path_eq p (active platform))) [
  | inl t ↦ inr (permits_gone p (undeployed_disk p) (cond-true (path_eq p (active platform)) gone (deployed_disk p) t))
  | inr f ↦ inl (cond-false (path_eq p (active platform)) gone (deployed_disk p) f)
]

changed : Changed deployed_disk undeployed_disk platform None
changed = retired now_gone (λ p f off. same_off p off) elsewhere

with_none : IsWith deployed_state platform None undeployed_state
with_none = changes.without_row deployed_state refl platform

pub undeployed_shows : Shows undeployed_disk undeployed_state
undeployed_shows = shows_changed {i = deployed_disk} {j = undeployed_disk} {name = platform} (ref_is deployed_disk platform deployed_row row_is).0 changed with_none deployed_shows

pub undeployed_sound : Sound undeployed_disk
undeployed_sound = sound_changed changed deployed_sound

kept : Keeps deployed_disk platform commit
kept = record { row = deployed_row; shown = row_is; of_row = inl refl }

stands : Stands (reads_as platform.kind) repo undeployed_disk commit (commit_dir platform commit)
stands = stands_same repo deployed_disk undeployed_disk commit (reads_as platform.kind) (commit_dir platform commit) (deployed_sound.commits platform commit kept)
    (λ rest off. same_off (rest ++ commit_dir platform commit) (inside_apart rest platform platform commit))
    (λ place h. same_off (object_path repo place.digest place.kind) (λ e. length_apart platform e))

deploy_is : IsFileOrGone (undeployed_disk (deploy (commit_dir platform commit)))
deploy_is = subst IsFileOrGone (sym (same_off (deploy (commit_dir platform commit)) (deploy_apart platform platform _))) (deployed_sound.deploys platform commit kept)

no_link : undeployed_disk new_link ≡ gone
no_link = refl

pub can_stage : (v : View) → IsTree v → IsSettled v → ((p : Elements) → shows v p ≡ undeployed_disk p) → CanStage undeployed_state deployed_row v
can_stage v tree settled same = record {
  opens = shown_opens v undeployed_disk tree settled same undeployed_shows undeployed_sound;
  stands = stands_same repo undeployed_disk (shows v) commit (reads_as platform.kind) (commit_dir platform commit) stands (λ rest off. same (rest ++ commit_dir platform commit)) (λ place h. same (object_path repo place.digest place.kind));
  moves = λ at. cc at.1;
  previous = λ c is. absurd (cc is.1);
  link_free = gone_absent tree new_link (same new_link ∙ no_link);
  deploy_free = file_free tree (deploy (commit_dir platform commit)) (subst IsFileOrGone (sym (same (deploy (commit_dir platform commit)))) deploy_is);
}
