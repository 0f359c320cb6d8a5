-- Names that tidying leaves alone.
use Rattle.std.proofs.Common.{◌≡◌, ◌≢◌, List, [], ℕ, inr, codes, refl, sym, ◌∙◌, ap}
use Rattle.fp_base.proofs.Texts.{bytes_eq-false}
use Rattle.fp_host.specs.Paths.{Elements, Slot}
use Rattle.fp_name.specs.declared.kind.RefKind.{RefKind}
use Rattle.fp_name.specs.declared.kind.RefKind.TheVariants.{App, Runtime}
use Rattle.fp_name.specs.Kinds.{kind_word}
use Rattle.fp_small.specs.Clear.{IsWithin}
use Rattle.fp_small.specs.declared.state.State.{State}
use Rattle.fp_small.proofs.Within.{within_rest}
use Rattle.dep_states.specs.Names.{config, overrides_folder}
use Rattle.dep_states.proofs.Deployed.{top, outward_append}
use Rattle.dep_states.proofs.Rows.{head_of}
use Rattle.dep_states.proofs.Work.{work_top}
use Rattle.dep_tidy.specs.Tidy.{MayTidy, some_work, commit_gone, old_gone, ref_gone, ref_written, ref_folder, object_gone}
use Rattle.dep_tidy.proofs.Apart.{dir_top, old_apart, folder_beside}

-- by its outermost element
left_by : {s : State} {q : Elements} {e : Slot} (x : List ℕ) → x ≢ codes "repo" → x ≢ codes "remotes.conf" → x ≢ codes "pins" → x ≢ codes "app" → x ≢ codes "runtime" → top q ≡ x → MayTidy s q e → ⊥
left_by {q = q} x repo remotes pins app runtime at (some_work above) = repo (sym at ∙ work_top q (inr above))
left_by {q = q} x repo remotes pins app runtime at (commit_gone name commit good digits off within is) = no_word name.kind (sym at ∙ dir_top name commit q within)
  where
    no_word : (k : RefKind) → x ≢ kind_word k
    no_word App = app
    no_word Runtime = runtime
left_by x repo remotes pins app runtime at (old_gone old is) = old_apart old remotes pins at
left_by x repo remotes pins app runtime at (ref_gone origin name remote good off is none) = repo (sym at ∙ ap top is)
left_by x repo remotes pins app runtime at (ref_written row has is f) = repo (sym at ∙ ap top is)
left_by {q = q} x repo remotes pins app runtime at (ref_folder row has within is) = repo (sym at ∙ (folder_beside row.origin row.name q within).0)
left_by x repo remotes pins app runtime at (object_gone d kind digits is none) = repo (sym at ∙ ap top is)

pub config_left : (s : State) (e : Slot) → MayTidy s config e → ⊥
config_left s e = left_by (codes "config") (bytes_eq-false (codes "config") (codes "repo") refl) (bytes_eq-false (codes "config") (codes "remotes.conf") refl) (bytes_eq-false (codes "config") (codes "pins") refl)
    (bytes_eq-false (codes "config") (codes "app") refl) (bytes_eq-false (codes "config") (codes "runtime") refl) refl

pub overrides_left : (s : State) (q : Elements) (e : Slot) → IsWithin overrides_folder q → MayTidy s q e → ⊥
overrides_left s q e within = let is = within_rest overrides_folder q within in
    left_by (codes "overrides") (bytes_eq-false (codes "overrides") (codes "repo") refl) (bytes_eq-false (codes "overrides") (codes "remotes.conf") refl) (bytes_eq-false (codes "overrides") (codes "pins") refl)
    (bytes_eq-false (codes "overrides") (codes "app") refl) (bytes_eq-false (codes "overrides") (codes "runtime") refl) (ap top is.1 ∙ ap head_of (outward_append is.0 overrides_folder []))
