-- The lines of a word.
use Rattle.std.proofs.Common.{◌≡◌, ℕ, false, not, ◌==◌, List, [], length, Option, Some, None, Result, Ok, Err, IfOk, refl, ap, ◌∙◌, inl, inr}
use Rattle.std.specs.Prelude.{option_and_then, option_map}
use Rattle.std.specs.Option.{option_map_or}
use Rattle.std.specs.Str.{is_utf8, IsUtf8}
use Rattle.std.proofs.lemmas.Bool.{cases_Bool, false_from_ne_true}
use Rattle.std.proofs.lemmas.Str.{is_utf8-from_IsUtf8, IsUtf8-from_is_utf8}
use Rattle.fp_keyfile.specs.Lines.{split_at}
use Rattle.fl_meta.specs.declared.permission.Mention.{Mention}
use Rattle.fl_options.specs.Options.{are_variable, is_variable, text_mentions, lines_with, lines_of_parts, option_lines, option_layer, is_option, command_in, command_option, is_launch_option}

pub variable_is : (text : List ℕ) (o : Option (List ℕ × List ℕ)) → o ≡ split_at 61 text → are_variable o ≡ is_variable text
unfolding is_variable
variable_is text o h = ap are_variable h

-- ---- words that are text

text_lines : (word : List ℕ) (o : Option (List ℕ × List ℕ)) → IsUtf8 word → o ≡ split_at 61 word → option_and_then lines_of_parts o ≡ option_lines word
unfolding option_lines
text_lines word o text is = rw (is_utf8-from_IsUtf8 word text) (ap (option_and_then lines_of_parts) is)

pub no_lines_cut : (word : List ℕ) → IsUtf8 word → None ≡ split_at 61 word → None ≡ option_lines word
no_lines_cut word text is = text_lines word None text is

pub lines_cut : {S E : Type 0} (view : S → List ℕ) (r : Result (Option S) E) (word name rest : List ℕ) → IsUtf8 word → Some (name, rest) ≡ split_at 61 word → IfOk r (λ lines. option_map view lines ≡ lines_with name rest) → IfOk r (λ lines. option_map view lines ≡ option_lines word)
lines_cut view (Ok lines) word name rest text is h = h ∙ text_lines word (Some (name, rest)) text is
lines_cut view (Err e) word name rest text is h = tt

pub text_command : (word : List ℕ) (o : Option (List ℕ × List ℕ)) → IsUtf8 word → o ≡ split_at 61 word → option_and_then command_in o ≡ command_option word
unfolding command_option
text_command word o text is = rw (is_utf8-from_IsUtf8 word text) (ap (option_and_then command_in) is)

-- ---- words that are no options

no_lines : (word : List ℕ) → option_lines word ≡ None → option_layer word ≡ []
unfolding option_layer
no_lines word h = ap (λ (o : Option (List ℕ)). option_map_or text_mentions o []) h

no_layer : (word : List ℕ) → option_layer word ≡ [] → is_option word ≡ false
no_layer word h = ap (λ (l : List Mention). not (length l == 0)) h

uncut : (word : List ℕ) → split_at 61 word ≡ None → option_lines word ≡ None
unfolding option_lines
uncut word h = elim (cases_Bool (is_utf8 word)) [ inl e ↦ rw (e, h) refl | inr e ↦ rw e refl ]

textless : (word : List ℕ) → is_utf8 word ≡ false → option_lines word ≡ None
unfolding option_lines
textless word h = rw h refl

-- a word without `=` mentions nothing
pub uncut_layer : (word : List ℕ) → split_at 61 word ≡ None → option_layer word ≡ []
uncut_layer word h = no_lines word (uncut word h)

pub uncut_no_option : (word : List ℕ) → split_at 61 word ≡ None → is_option word ≡ false
uncut_no_option word h = no_layer word (uncut_layer word h)

pub no_text_no_option : (word : List ℕ) → (IsUtf8 word → ⊥) → is_option word ≡ false
no_text_no_option word bad = no_layer word (no_lines word (textless word (false_from_ne_true (is_utf8 word) (λ e. bad (IsUtf8-from_is_utf8 word e)))))

textless_command : (word : List ℕ) → is_utf8 word ≡ false → command_option word ≡ None
unfolding command_option
textless_command word h = rw h refl

pub no_text_no_launch_option : (word : List ℕ) → (IsUtf8 word → ⊥) → is_launch_option word ≡ false
no_text_no_launch_option word bad =
    rw (no_text_no_option word bad, textless_command word (false_from_ne_true (is_utf8 word) (λ e. bad (IsUtf8-from_is_utf8 word e)))) refl
