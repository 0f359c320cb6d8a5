-- Of two refs that don't read the one whose path comes first by its bytes, which isn't the one
-- whose ID comes first.
use Rattle.std.proofs.Common.{◌≡◌, ◌≢◌, ◌⊎◌, inl, inr, ℕ, List, Bool, true, not, ◌||◌, Err, refl, sym, ◌∙◌, ap, subst}
use Rattle.std.specs.Prelude.{codes}
use Rattle.std.specs.Str.{bytes_eq}
use Rattle.std.proofs.lemmas.Bool.{cond-true, or_cases, not-true}
use Rattle.fp_base.proofs.Texts.{bytes_eq-false}
use Rattle.fp_host.specs.Paths.{Elements, path_eq, path_text}
use Rattle.fp_host.specs.Outcome.{gone, holds}
use Rattle.fp_host.proofs.Separate.{path_decides}
use Rattle.fp_name.specs.Grammar.{is_id, is_arch, is_branch}
use Rattle.fp_name.specs.Hex.{hex}
use Rattle.fp_name.specs.Refs.{Ref, is_ref}
use Rattle.fp_small.specs.Order.{comes_before}
use Rattle.dep_states.specs.Names.{active, override_path}
use Rattle.fp_name.specs.Grammar.{is_override}
use Rattle.dep_states.specs.Shown.{Seen, away, bad, deploy_at, by_active, ref_seen, override_at, remotes_at, pins_at}
use Rattle.dep_states.specs.Damaged.{Damages, bad_config, bad_remotes, bad_pins, bad_ref, bad_override, Gives}
use Rattle.dep_states.specs.Samples.{one_text, app_bytes, short_ref, dashed_ref, damaged_rows, damaged_disk}
use Rattle.dep_states.proofs.Rows.{none_at, head_of, tail_of}
use Rattle.dep_states.proofs.Switch.{ref_cases}
use Rattle.dep_states.proofs.Worked.{active_same, app_reads}
use Rattle.dep_states.proofs.Away.{override_away, layer_away}

away_bad : {A : Type 0} {x : Seen A} → x ≡ away → x ≡ bad → ⊥
away_bad a b = cc (a, b)

active_test : Elements → Bool
active_test q = not (bytes_eq (head_of q) (codes "active")) || (path_eq q (active short_ref) || path_eq q (active dashed_ref))

active_apart : (name : Ref) → name ≢ short_ref → name ≢ dashed_ref → (q : Elements) → active_test q ≡ true → active name ≢ q
unfolding active_test
active_apart name a b q t e = elim (or_cases (not (bytes_eq (head_of q) (codes "active"))) (path_eq q (active short_ref) || path_eq q (active dashed_ref)) t) [
  | inl other ↦ bytes_eq-false (head_of q) (codes "active") (not-true (bytes_eq (head_of q) (codes "active")) other) (sym (ap head_of e))
  | inr same ↦ elim (or_cases (path_eq q (active short_ref)) (path_eq q (active dashed_ref)) same) [
    | inl s ↦ a (active_same name short_ref (e ∙ (path_decides q (active short_ref)).0 s))
    | inr d ↦ b (active_same name dashed_ref (e ∙ (path_decides q (active dashed_ref)).0 d))
  ]
]

active_gone : (name : Ref) → name ≢ short_ref → name ≢ dashed_ref → damaged_disk (active name) ≡ gone
unfolding active_test
active_gone name a b = none_at (active name) active_test damaged_rows (active_apart name a b) refl

override_test : Elements → Bool
override_test q = not (bytes_eq (head_of (tail_of q)) (codes "overrides"))

override_gone : (name : List ℕ) → damaged_disk (override_path name) ≡ gone
unfolding override_test
override_gone name = none_at (override_path name) override_test damaged_rows
    (λ q t e. bytes_eq-false (head_of (tail_of q)) (codes "overrides") (not-true (bytes_eq (head_of (tail_of q)) (codes "overrides")) t) (sym (ap (λ p. head_of (tail_of p)) e))) refl

no_remotes : remotes_at gone ≡ away
unfolding remotes_at
no_remotes = refl

no_pins : pins_at gone ≡ away
unfolding pins_at
no_pins = refl

dashed_good : is_ref dashed_ref ≡ true
unfolding is_id is_arch is_branch
dashed_good = refl

other_commit : deploy_at dashed_ref one_text (holds 1 420 app_bytes) ≡ bad
unfolding deploy_at hex
other_commit = rw app_reads refl

dashed_bad : ref_seen damaged_disk dashed_ref ≡ bad
dashed_bad = cond-true (is_ref dashed_ref) _ _ dashed_good ∙ other_commit

first : (q : Elements) → Damages damaged_disk q → (q ≡ active dashed_ref) ⊎ (comes_before (path_text (active dashed_ref)) (path_text q) ≡ true)
first q (bad_config is e at) = absurd (is refl)
first q (bad_remotes none e at) = absurd (away_bad no_remotes e)
first q (bad_pins none e at) = absurd (away_bad no_pins e)
first q (bad_ref name e at) = elim (ref_cases name dashed_ref) [
  | inl d ↦ inl (at ∙ ap active d)
  | inr b ↦ elim (ref_cases name short_ref) [
    | inl s ↦ inr (subst (λ p. comes_before (path_text (active dashed_ref)) (path_text p) ≡ true) (sym (at ∙ ap active s)) refl)
    | inr a ↦ absurd (away_bad (layer_away (is_ref name) (by_active damaged_disk name (damaged_disk (active name))) (ap (by_active damaged_disk name) (active_gone name a b))) e)
  ]
]
first q (bad_override name e at) =
    absurd (away_bad (layer_away (is_override name) (override_at name (damaged_disk (override_path name))) (ap (override_at name) (override_gone name) ∙ override_away name)) e)

pub damaged_gives : Gives damaged_disk (Err (active dashed_ref))
damaged_gives = record { damages = bad_ref dashed_ref dashed_bad refl; first = first }
