-- Which words can go on to be a command, and where words go wrong.
use Rattle.std.proofs.Common.{◌≡◌, ℕ, ◌+◌, ◌<◌, ◌≤◌, suc, Bool, true, false, cond, List, [], ◌∷◌, ◌++◌, length, take, Option, Some, None, refl, rules, sym, ap, ◌∙◌, arith, add-one, inl, inr}
use Rattle.std.proofs.lemmas.Bool.{cases_lt, false≢true}
use Rattle.std.specs.Prelude.{IsSome, max, option_and_then}
use Rattle.std.specs.List.{find}
use Rattle.std.specs.Option.{option_map, is_some}
use Rattle.fl_words.specs.declared.command.Command.{Command}
use Rattle.fl_words.specs.declared.forms.Form.{Form}
use Rattle.fl_words.specs.Forms.{Place, forms, slots_of, form_command, left_after, reach, reads, most, bad_index}
use Rattle.fl_words.specs.Reasons.{begins}
use Rattle.fl_words.specs.Words.{Begins}
use Rattle.fl_words.proofs.Reaching.{ends, samples, samples_fit, clear_places, clear_left, left_append, reach_left, left_reach, reach-within}

-- ---- the forms that words begin

-- the first n words begin the form where others may follow them in it, and only there
pub on_to_form : (words : List (List ℕ)) (n : ℕ) (form : Form) → begins words n form ≡ true → (more : List (List ℕ)) × (reads (take n words ++ more) form ≡ true)
on_to_form words n form h = by (left_after (slots_of form) (take n words)) refl h
  where
    by : (o : Option (List Place)) → left_after (slots_of form) (take n words) ≡ o → is_some o ≡ true → (more : List (List ℕ)) × (reads (take n words ++ more) form ≡ true)
    by None at some = absurd (false≢true some)
    by (Some left) at some = (
      samples left,
      ap ends (left_append (slots_of form) (take n words) (samples left) ∙ ap (λ (o : Option (List Place)). option_and_then (λ ps. left_after ps (samples left)) o) at)
          ∙ samples_fit left (clear_left (slots_of form) (take n words) left at (clear_places form)),
    )

pub from_form : (words more : List (List ℕ)) (n : ℕ) (form : Form) → reads (take n words ++ more) form ≡ true → begins words n form ≡ true
from_form words more n form is = by (left_after (slots_of form) (take n words)) (sym (ap ends (left_append (slots_of form) (take n words) more)) ∙ is)
  where
    by : (o : Option (List Place)) → ends (option_and_then (λ left. left_after left more) o) ≡ true → is_some o ≡ true
    by None is = is
    by (Some left) is = refl

-- ---- the first word that goes wrong

-- the command of words, by these forms alone
abbrev command_by : List Form → List (List ℕ) → Option Command
command_by fs words = option_map (λ form. form_command form words) (find (reads words) fs)

-- the first form is tried first
first_reads : (f : Form) (fs : List Form) (words : List (List ℕ)) → reads words f ≡ true → IsSome (command_by (f ∷ fs) words)
first_reads f fs words h = rw h (search rules)

some_later : (b : Bool) (f : Form) (o : Option Form) (words : List (List ℕ)) → IsSome (option_map (λ form. form_command form words) o) → IsSome (option_map (λ form. form_command form words) (cond b (Some f) o))
some_later true f o words some = search rules
some_later false f o words some = some

begins_in : (fs : List Form) (words : List (List ℕ)) (i : ℕ) → i < most words fs → (more : List (List ℕ)) × IsSome (command_by fs (take (suc i) words ++ more))
begins_in [] words i h = absurd (omega (arith, h))
begins_in (f ∷ fs) words i h = elim (cases_lt i (reach (slots_of f) words)) [
  | inl here ↦
      let on = on_to_form words (suc i) f (reach_left (slots_of f) words (suc i) (omega (arith, here))) in
      (on.0, first_reads f fs (take (suc i) words ++ on.0) on.1)
  | inr beyond ↦
      let on = begins_in fs words i (omega (arith, h, beyond)) in
      (on.0, some_later (reads (take (suc i) words ++ on.0) f) f (find (reads (take (suc i) words ++ on.0)) fs) (take (suc i) words ++ on.0) on.1)
]

pub goes_on_before : (words : List (List ℕ)) (i : ℕ) → i < bad_index words → Begins (take (i + 1) words)
goes_on_before words i h = rw add-one (let on = begins_in forms words i h in record { more = on.0; accepted = on.1 })

by_form : (b : Bool) (f : Form) (fs : List Form) (words more : List (List ℕ)) (n : ℕ) → n ≤ length words → reads (take n words ++ more) f ≡ b → IsSome (option_map (λ form. form_command form (take n words ++ more)) (cond b (Some f) (find (reads (take n words ++ more)) fs)))
    → (IsSome (command_by fs (take n words ++ more)) → n ≤ most words fs) → n ≤ max (reach (slots_of f) words) (most words fs)
by_form true f fs words more n h is some next = let far = left_reach (slots_of f) words n h (from_form words more n f is) in omega (arith, far)
by_form false f fs words more n h is some next = let on = next some in omega (arith, on)

reaches : (fs : List Form) (words more : List (List ℕ)) (n : ℕ) → n ≤ length words → IsSome (command_by fs (take n words ++ more)) → n ≤ most words fs
reaches [] words more n h some = absurd (search rules)
reaches (f ∷ fs) words more n h some = by_form (reads (take n words ++ more) f) f fs words more n h refl some (reaches fs words more n h)

pub ends_there : (words : List (List ℕ)) → bad_index words < length words → Begins (take (bad_index words + 1) words) → ⊥
ends_there words h b = let on = reaches forms words b.more (bad_index words + 1) (omega (arith, h)) b.accepted in omega (arith, on)

pub most-within : (fs : List Form) (words : List (List ℕ)) → most words fs ≤ length words
most-within [] words = omega arith
most-within (f ∷ fs) words = omega (arith, reach-within (slots_of f) words, most-within fs words)

pub bad_index-within : (words : List (List ℕ)) → bad_index words ≤ length words
bad_index-within words = most-within forms words
