-- The words of the filter.
use Rattle.std.proofs.Common.{◌≡◌, ℕ, true, false, List, ◌++◌, take, drop, refl, ap, sym, ◌∙◌}
use Rattle.std.specs.Prelude.{codes}
use Rattle.std.specs.Str.{bytes_eq}
use Rattle.std.proofs.lemmas.Bool.{and_parts}
use Rattle.std.proofs.lemmas.List.{take-append-drop}
use Rattle.std.proofs.lemmas.Slice.Eq.{bytes_eq-Decides}
use Rattle.fp_name.specs.Refs.{is_ref, ref_at}
use Rattle.fl_options.specs.Rules.{word_rule, is_rule}
use Rattle.fl_words.specs.Forms.{from_app, is_app_text, fits}
use Rattle.fp_name.specs.Pins.{is_app}
use Rattle.fl_words.specs.Words.{from_word}
use Rattle.fl_words.proofs.RefTexts.{same_text, is_good, app_is_ref, app_at}

-- ---- words that are no rules

pub no_from_rule : (text : List ℕ) → is_rule (codes "--from=" ++ text) ≡ false
unfolding word_rule
no_from_rule text = refl

pub no_system_rule : is_rule (codes "--system") ≡ false
unfolding word_rule
no_system_rule = refl

-- ---- the word of an application's policy

parts : (text : List ℕ) → fits from_app text ≡ true → (bytes_eq (take 7 text) (codes "--from=") ≡ true) × (is_app_text (drop 7 text) ≡ true)
parts text fit = and_parts (bytes_eq (take 7 text) (codes "--from=")) (is_app_text (drop 7 text)) fit

pub from_same : (text : List ℕ) → fits from_app text ≡ true → text ≡ from_word (ref_at (drop 7 text))
from_same text fit =
    sym (take-append-drop 7 text) ∙ ap (λ (t : List ℕ). t ++ drop 7 text) ((bytes_eq-Decides (take 7 text) (codes "--from=")).0 (parts text fit).0)
    ∙ ap (λ (t : List ℕ). codes "--from=" ++ t) (same_text (drop 7 text) (app_is_ref (drop 7 text) (parts text fit).1))

pub from_good : (text : List ℕ) → fits from_app text ≡ true → is_ref (ref_at (drop 7 text)) ≡ true
from_good text fit = is_good (drop 7 text) (app_is_ref (drop 7 text) (parts text fit).1)

pub from_is_app : (text : List ℕ) → fits from_app text ≡ true → is_app (ref_at (drop 7 text)) ≡ true
from_is_app text fit = app_at (drop 7 text) (parts text fit).1
