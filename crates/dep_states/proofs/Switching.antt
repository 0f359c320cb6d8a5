-- The rename onto `active`: old or new, and Sound.
use Rattle.std.proofs.Common.{◌≡◌, ◌≢◌, ◌⊎◌, inl, inr, ℕ, List, [], ◌∷◌, ◌++◌, Bool, true, false, Some, refl, sym, ◌∙◌, ap, subst, codes, arith}
use Rattle.std.specs.Prelude.{if◌then◌else◌}
use Rattle.fp_base.proofs.Texts.{bytes_eq-false}
use Rattle.fp_host.specs.Paths.{Elements}
use Rattle.fp_host.specs.View.{View}
use Rattle.fp_host.specs.Outcome.{Spot, gone, points, Disk, Leaves, Follows}
use Rattle.fp_name.specs.declared.kind.RefKind.{RefKind}
use Rattle.fp_name.specs.declared.kind.RefKind.TheVariants.{App, Runtime}
use Rattle.fp_name.specs.Grammar.{is_id, is_arch, is_branch}
use Rattle.fp_name.specs.Hex.{hex}
use Rattle.fp_name.specs.Kinds.{kind_word}
use Rattle.fp_name.specs.Refs.{Ref, is_ref}
use Rattle.fp_small.specs.Places.{repo, tmp}
use Rattle.fp_small.specs.declared.state.State.{State}
use Rattle.fp_small.specs.declared.state.RefRow.{RefRow}
use Rattle.ost_model.specs.Objects.{object_path}
use Rattle.ost_model.specs.Order.{Place}
use Rattle.dep_states.specs.Names.{active, commit_dir}
use Rattle.dep_states.specs.Shown.{Shows}
use Rattle.dep_states.specs.Zones.{Zone, anything, Fits, zone, outward}
use Rattle.dep_states.specs.Sound.{Sound, IsOld, is_remotes, is_pins, Fixed, is_config, is_old, is_active, is_deploy, is_layer, is_inside, is_object, Permits}
use Rattle.dep_states.specs.Switch.{IsWith, Wanted, is_fixed, is_new_path, is_new_object, is_new_deploy, Stages, SwitchesAt, OpensEither}
use Rattle.dep_states.proofs.Empty.{allowed_gone}
use Rattle.dep_states.proofs.Law.{shows_same, sound_same}
use Rattle.dep_states.proofs.Rows.{head_of}
use Rattle.dep_states.proofs.Deployed.{outward_append, top}
use Rattle.dep_states.proofs.Switch.{shows_changed, sound_changed, switched, inside_apart, deploy_apart, length_apart}

abbrev pub second : List (List ℕ) → List ℕ
second [] = []
second (x ∷ rest) = head_of rest

pub word_no_repo : (k : RefKind) → kind_word k ≢ codes "repo"
word_no_repo App = bytes_eq-false (codes "app") (codes "repo") refl
word_no_repo Runtime = bytes_eq-false (codes "runtime") (codes "repo") refl

pub old_no_repo : {p : Elements} → IsOld p → top p ≡ codes "repo" → ⊥
old_no_repo (is_remotes e) t = bytes_eq-false (codes "remotes.conf") (codes "repo") refl (sym (ap top e) ∙ t)
old_no_repo (is_pins e) t = bytes_eq-false (codes "pins") (codes "repo") refl (sym (ap top e) ∙ t)

-- nothing at or below repo/tmp is fixed
module _ {p : Elements} (rest : Elements) (e : p ≡ rest ++ tmp) where
  in_repo : top p ≡ codes "repo"
  in_repo = ap top e ∙ ap head_of (outward_append rest tmp [])

  in_tmp : second (outward p) ≡ codes "tmp"
  in_tmp = ap (λ q. second (outward q)) e ∙ ap second (outward_append rest tmp [])

  inside_no_tmp : (name : Ref) (commit : List ℕ) (r : Elements) → p ≡ r ++ commit_dir name commit → ⊥
  inside_no_tmp name commit r at = word_no_repo name.kind (sym (ap head_of (outward_append r (commit_dir name commit) [])) ∙ sym (ap top at) ∙ in_repo)

  object_no_tmp : (place : Place) → p ≡ object_path repo place.digest place.kind → ⊥
  object_no_tmp place at = bytes_eq-false (codes "objects") (codes "tmp") refl (sym (ap (λ q. second (outward q)) at) ∙ in_tmp)

  pub none_in_tmp : {i : Disk} → Fixed i p → ⊥
  none_in_tmp (is_config at) = bytes_eq-false (codes "config") (codes "repo") refl (sym (ap top at) ∙ in_repo)
  none_in_tmp (is_old none old) = old_no_repo old in_repo
  none_in_tmp (is_active name good at) = word_no_repo name.kind (sym (ap top at) ∙ in_repo)
  none_in_tmp (is_deploy name text good link at) = word_no_repo name.kind (sym (ap top at) ∙ in_repo)
  none_in_tmp (is_layer name good at) = bytes_eq-false (codes "overrides") (codes "repo") refl (sym (ap top at) ∙ in_repo)
  none_in_tmp (is_inside name commit r k off at) = inside_no_tmp name commit r at
  none_in_tmp (is_object name commit place k h at) = object_no_tmp place at

  -- what the switch reads is never a work name
  wanted_no_tmp : {i : Disk} (name : Ref) (row : RefRow) → Wanted i name row p → ⊥
  wanted_no_tmp name row (is_fixed f off) = none_in_tmp f
  wanted_no_tmp name row (is_new_path r off at) = inside_no_tmp name row.commit r at
  wanted_no_tmp name row (is_new_object place h at) = object_no_tmp place at
  wanted_no_tmp name row (is_new_deploy at) = word_no_repo name.kind (sym (ap top at) ∙ in_repo)

link_if : (b : Bool) (z : Zone) (p : Elements) (text : List ℕ) → Fits z p (points text) → Fits (if b then z else anything) p (points text)
link_if true z p text f = f
link_if false z p text f = tt

active_fits : (kind : RefKind) (id arch branch : List ℕ) (p : Elements) (text : List ℕ) → Fits (zone (outward (codes "active" ∷ (branch ∷ (arch ∷ (id ∷ (kind_word kind ∷ []))))))) p (points text)
active_fits App id arch branch p text = link_if (is_id id) _ p text (link_if (is_arch arch) _ p text (link_if (is_branch branch) _ p text tt))
active_fits Runtime id arch branch p text = link_if (is_id id) _ p text (link_if (is_arch arch) _ p text (link_if (is_branch branch) _ p text tt))

wanted_no_active : {i : Disk} {name : Ref} {row : RefRow} {p : Elements} → Wanted i name row p → p ≢ active name
wanted_no_active (is_fixed f off) = off
wanted_no_active {name = name} {row = row} (is_new_path r off at) = λ e. inside_apart r name name row.commit (sym at ∙ e)
wanted_no_active {name = name} (is_new_object place h at) = λ e. length_apart name (sym at ∙ e)
wanted_no_active {name = name} {row = row} (is_new_deploy at) = λ e. deploy_apart name name (hex row.commit) (sym at ∙ e)

active_no_tmp : (name : Ref) (rest : Elements) → active name ≡ rest ++ tmp → ⊥
active_no_tmp name rest e = word_no_repo name.kind (ap top e ∙ ap head_of (outward_append rest tmp []))

pub permits_gone : {i : Disk} (p : Elements) (spot : Spot) → spot ≡ gone → Permits i p spot
permits_gone {i = i} p spot e = subst (Permits i p) (sym e) (record { allowed = allowed_gone p; deploy = λ name commit k at. tt })

pub switch_law : {s t : State} {name : Ref} {row : RefRow} {u w : View} (rest : Elements) → is_ref name ≡ true → IsWith s name (Some row) t
    → Follows (SwitchesAt name row (rest ++ tmp)) u w → Stages s name row u → OpensEither s t w
switch_law {s = s} {t = t} {name = name} {row = row} {u = u} {w = w} rest good with_ follows staged = record { shown = λ disk left. (each disk left).0; sound = λ disk left. (each disk left).1 }
  where
    permits : (i : Disk) (p : Elements) (spot : Spot) → SwitchesAt name row (rest ++ tmp) p spot → Permits i p spot
    permits i p spot (inr h) = permits_gone p spot h.1
    permits i p spot (inl h) = subst (λ q. Permits i q spot) (sym h.0) (subst (Permits i (active name)) (sym h.1) (record {
      allowed = record { fits = active_fits name.kind name.id name.arch name.branch (active name) (hex row.commit); short = inr (omega arith) };
      deploy = λ n commit k at. absurd (deploy_apart n name (hex commit) (sym at));
    }))

    each : (disk : Disk) → Leaves w disk → (Shows disk s ⊎ Shows disk t) × Sound disk
    each disk left = go (step (active name))
      where
        b : (before : Disk) × Leaves u before × ((p : Elements) → (disk p ≡ before p) ⊎ SwitchesAt name row (rest ++ tmp) p (disk p))
        b = follows.from disk left

        step : (p : Elements) → (disk p ≡ b.0 p) ⊎ SwitchesAt name row (rest ++ tmp) p (disk p)
        step = b.2

        elsewhere : (p : Elements) → (disk p ≡ b.0 p) ⊎ Permits b.0 p (disk p)
        elsewhere p = elim (step p) [ inl same ↦ inl same | inr given ↦ inr (permits b.0 p (disk p) given) ]

        stays : (p : Elements) → Wanted b.0 name row p → disk p ≡ b.0 p
        stays p wanted = elim (step p) [
          | inl same ↦ same
          | inr given ↦ elim given [
            | inl h ↦ absurd (wanted_no_active wanted h.0)
            | inr h ↦ absurd (wanted_no_tmp rest h.0 name row wanted)
          ]
        ]

        still : disk (active name) ≡ b.0 (active name) → (p : Elements) → Fixed b.0 p → disk p ≡ b.0 p
        still same p f = elim (step p) [
          | inl is ↦ is
          | inr given ↦ elim given [
            | inl h ↦ ap disk h.0 ∙ same ∙ sym (ap b.0 h.0)
            | inr h ↦ absurd (none_in_tmp rest h.0 f)
          ]
        ]

        go : (disk (active name) ≡ b.0 (active name)) ⊎ SwitchesAt name row (rest ++ tmp) (active name) (disk (active name)) → (Shows disk s ⊎ Shows disk t) × Sound disk
        go (inl same) = (inl (shows_same b.0 disk (still same) (staged.opens.shown b.0 b.1)), sound_same b.0 disk (still same) elsewhere (staged.opens.sound b.0 b.1))
        go (inr (inr h)) = absurd (active_no_tmp name rest h.0)
        go (inr (inl h)) =
            let c = switched (staged.prepared b.0 b.1) (staged.opens.sound b.0 b.1) h.1 stays elsewhere in
            (inr (shows_changed good c with_ (staged.opens.shown b.0 b.1)), sound_changed c (staged.opens.sound b.0 b.1))
