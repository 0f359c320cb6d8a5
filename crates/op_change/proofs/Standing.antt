-- A commit that was fetched can be deployed.
use Rattle.std.proofs.Common.{◌≡◌, inl, inr, ℕ, List, Bool, true, false, Option, Some, None, refl, ◌∙◌, ap}
use Rattle.std.specs.Prelude.{option_map}
use Rattle.std.specs.Str.{bytes_eq}
use Rattle.std.proofs.lemmas.Bool.{cases_Bool}
use Rattle.std.proofs.lemmas.Slice.Eq.{bytes_eq-Decides}
use Rattle.fp_host.specs.View.{View, IsTree}
use Rattle.fp_host.specs.Outcome.{gone, shows}
use Rattle.fp_host.proofs.Shown.{now_left}
use Rattle.fp_name.specs.Refs.{Ref, is_ref}
use Rattle.fp_small.specs.Places.{repo}
use Rattle.fp_small.specs.Replace.{IsFreeFile}
use Rattle.fp_small.specs.declared.state.State.{State}
use Rattle.fp_small.specs.declared.state.RefRow.{RefRow}
use Rattle.fp_small.specs.declared.state.Previous.{Previous}
use Rattle.ost_model.specs.Look.{Found}
use Rattle.ost_model.specs.Objects.{Have, store}
use Rattle.ost_model.specs.Standing.{Stands, expected, deploy_name}
use Rattle.ost_model.proofs.Looked.{look_same}
use Rattle.dep_states.specs.After.{row_at, HasRow, HasPrevious}
use Rattle.dep_states.specs.Deploy.{goes_back_to}
use Rattle.dep_states.specs.Frames.{KeptIn}
use Rattle.dep_states.specs.Names.{commit_dir, deploy}
use Rattle.dep_states.specs.Sound.{Keeps, Sound, Opens, IsPrevious, reads_as}
use Rattle.dep_states.proofs.Single.{some_is}
use Rattle.dep_states.proofs.Sparing.{state_of_kept}
use Rattle.dep_switch.specs.Rows.{IsAt}
use Rattle.dep_switch.specs.Staging.{CanStage}
use Rattle.dep_switch.proofs.Spots.{gone_absent, file_free}
use Rattle.op_change.specs.Brought.{left_at, row_brought}
use Rattle.op_change.specs.Fetching.{IsFetched}
use Rattle.op_change.specs.Headed.{IsHeaded}
use Rattle.op_change.proofs.Headed.{headed_stands}

-- ---- the row

-- the previous commit is that at which the ref is
previous_is : (s : State) (name : Ref) (o : Option RefRow) (c : List ℕ) → row_at s name ≡ o → IsPrevious (option_map left_at o) c → IsAt s name c
previous_is s name None c at (p, is, same) = absurd (cc is)
previous_is s name (Some row) c at (p, is, same) = (row, at, ap (λ (q : Previous). q.commit) (some_is is) ∙ same)

pub goes_back : (s : State) (name : Ref) (o : Option RefRow) (commit : List ℕ) → row_at s name ≡ o → (IsAt s name commit → ⊥) → goes_back_to commit (option_map left_at o) ≡ false
goes_back s name None commit at moves = refl
goes_back s name (Some row) commit at moves = elim (cases_Bool (bytes_eq row.commit commit)) [
  | inl same ↦ absurd (moves (row, at, (bytes_eq-Decides row.commit commit).0 same))
  | inr other ↦ other
]

-- a commit that isn't the ref's is kept as its previous one
pub kept_before : {s : State} {name : Ref} {commit : List ℕ} → HasRow s name (HasPrevious commit) → KeptIn s name commit
kept_before has = record { row = has.0; has = has.1; of_row = inr has.2 }

pub unkept_by : {s : State} {name : Ref} {commit : List ℕ} → (IsAt s name commit → ⊥) → (HasRow s name (HasPrevious commit) → ⊥) → KeptIn s name commit → ⊥
unkept_by moves none kept = elim kept.of_row [ inl at ↦ moves (kept.row, kept.has, at) | inr before ↦ none (kept.row, kept.has, before) ]

-- ---- it stands

module _ {s : State} {name : Ref} {commit : List ℕ} {time : ℕ} {kept : Bool} {have : Have} {u v : View} (tree : IsTree v) (good : is_ref name ≡ true) (opens : Opens s v) (head : IsHeaded have name commit time) (fetched : IsFetched name commit kept have u v)
    (keeps : kept ≡ true → KeptIn s name commit) where
  sound_now : Sound (shows v)
  sound_now = opens.sound (shows v) (now_left v)

  kept_now : kept ≡ true → Keeps (shows v) name commit
  kept_now is = state_of_kept good (opens.shown (shows v) (now_left v)) (keeps is)

  stands : Stands (reads_as name.kind) repo (shows v) commit (commit_dir name commit)
  stands = elim (cases_Bool kept) [
    | inl is ↦ sound_now.commits name commit (kept_now is)
    | inr is ↦ headed_stands head fetched.clean fetched.objects.there (fetched.laid is).paths
  ]

  no_record : kept ≡ false → shows v (deploy (commit_dir name commit)) ≡ gone
  no_record is = (fetched.laid is).paths deploy_name
      ∙ ap (λ (f : Found). expected repo (shows v) f) (look_same have (store repo (shows v)) commit fetched.clean fetched.objects.there deploy_name ∙ head.no_deploy)

  record_free : IsFreeFile (deploy (commit_dir name commit)) v
  record_free = elim (cases_Bool kept) [
    | inl is ↦ file_free tree (deploy (commit_dir name commit)) (sound_now.deploys name commit (kept_now is))
    | inr is ↦ inl (gone_absent tree (deploy (commit_dir name commit)) (no_record is))
  ]

  pub can_stage : (origin : List ℕ) → (IsAt s name commit → ⊥) → CanStage s (row_brought s name origin commit time) v
  can_stage origin moves = record {
    opens = opens;
    stands = stands;
    moves = moves;
    previous = λ c is. previous_is s name (row_at s name) c refl is;
    link_free = fetched.link_free;
    deploy_free = record_free;
  }
