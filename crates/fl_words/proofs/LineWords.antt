-- The words of a line, one after another.
use Rattle.std.proofs.Common.{subst, Result, Ok, Err, IsErrAnd, IfErr, ◌≡◌, ℕ, ◌+◌, suc, Bool, true, false, cond, ◌&&◌, eqb, List, [], ◌∷◌, ◌++◌, take, drop, Option, Some, None, refl, ap, sym, ◌∙◌, ◌⊎◌, inl, inr, arith}
use Rattle.std.specs.List.{position, list_all, onto_first, find}
use Rattle.std.specs.Option.{option_map, is_some}
use Rattle.std.proofs.lemmas.Slice.Eq.{bytes_eq-Decides}
use Rattle.std.specs.Prelude.{option_and_then}
use Rattle.std.specs.Str.{is_utf8, IsUtf8}
use Rattle.std.proofs.lemmas.Bool.{cases_Bool, false≢true, and_parts}
use Rattle.std.proofs.lemmas.Str.{IsUtf8-from_is_utf8, is_utf8-from_IsUtf8}
use Rattle.fp_name.specs.Bytes.{is_dotted}
use Rattle.fp_name.specs.Grammar.{is_remote_name, is_url, is_id}
use Rattle.fp_name.specs.Pins.{is_pin}
use Rattle.fp_name.specs.Refs.{ref_of}
use Rattle.fp_name.proofs.Bytes.{Utf8-from_dotted, no_text_no_remote_name, no_text_no_url, no_text_no_id}
use Rattle.fp_name.proofs.Pins.{no_text_no_pin}
use Rattle.fp_keyfile.proofs.FirstPlace.{at_place, at_none}
use Rattle.fl_words.specs.declared.command.Command.{Command}
use Rattle.fl_words.specs.declared.command.WordsError.{WordsError}
use Rattle.fl_words.specs.declared.command.WordsError.TheVariants.{BadWords, NoMemory}
use Rattle.fl_words.specs.declared.forms.Form.{Form}
use Rattle.fl_words.specs.declared.forms.Form.TheVariants.{Filter, FilterFrom, FilterSystemFrom, Exercise}
use Rattle.fl_words.proofs.RefTexts.{no_text as no_text_no_ref, app_is_ref}
use Rattle.fl_words.proofs.TypeTexts.{no_text_no_type}
use Rattle.fl_options.specs.Options.{is_option, is_launch_option}
use Rattle.fl_options.proofs.Lines.{no_text_no_option, no_text_no_launch_option}
use Rattle.fl_words.specs.Types.{is_type_text}
use Rattle.fl_words.specs.Forms.{Place, literal, pattern, remote, url, ref_name, app, app_id, type_string, permission, permissions, launch_options, filter_rules, from_app, app_count, fits, repeats, forms, slots_of, left_after_word, left_after, form_command, reads, command_of}
use Rattle.fl_words.specs.Reading.{IsNoCommand}
use Rattle.fl_words.specs.Batch.{words_in, change_of, batch_change, IsNoText, IsNoRecord}
use Rattle.fl_words.proofs.Reaching.{ends, Fit}
use Rattle.fl_words.proofs.ReadBack.{found}

-- ---- where the first space stands

words_remainder : (b : ℕ) (bytes : List ℕ) (end : ℕ) → eqb b 32 ≡ false → words_in bytes ≡ take end bytes ∷ words_in (drop (end + 1) bytes) → words_in (b ∷ bytes) ≡ take (suc end) (b ∷ bytes) ∷ words_in (drop (suc end + 1) (b ∷ bytes))
words_remainder b bytes end e h =
    let one : suc end + 1 ≡ suc (end + 1) = omega arith in
    rw (one, e, h) refl

pub words_at : (bytes : List ℕ) (end : ℕ) → position (λ b. eqb b 32) bytes ≡ Some end → words_in bytes ≡ take end bytes ∷ words_in (drop (end + 1) bytes)
words_at [] end h = absurd cc
words_at (b ∷ bytes) end h =
    elim (at_place (λ x. eqb x 32) b bytes end h) [
      | inl here ↦ rw (here.1, here.0) refl
      | inr next ↦ rw next.1.is (words_remainder b bytes next.1.before next.0 (words_at bytes next.1.before next.1.place))
    ]

-- where there is none
pub words_last : (bytes : List ℕ) → position (λ b. eqb b 32) bytes ≡ None → words_in bytes ≡ bytes ∷ []
words_last [] h = refl
words_last (b ∷ bytes) h =
    let a = at_none (λ x. eqb x 32) b bytes h in
    rw a.0 (ap (onto_first b) (words_last bytes a.1))

-- ---- words that ask for no change

-- where one of them isn't text

-- a text of letters, digits, `-` and such
ascii : (text : List ℕ) → list_all is_dotted text ≡ true → is_utf8 text ≡ true
ascii text h = is_utf8-from_IsUtf8 text (Utf8-from_dotted text h)

text_where : (passes : List ℕ → Bool) → ((text : List ℕ) → (IsUtf8 text → ⊥) → passes text ≡ false) → (text : List ℕ) → passes text ≡ true → is_utf8 text ≡ true
text_where passes none text h =
    elim (cases_Bool (is_utf8 text)) [
      | inl yes' ↦ yes'
      | inr no' ↦ absurd (false≢true (sym (none text (λ u. false≢true (sym no' ∙ is_utf8-from_IsUtf8 text u))) ∙ h))
    ]

-- the words of the forms are such, but those of the filter and of an exercise, which are no changes
abbrev is_plain : Place → Bool
is_plain (literal w) = list_all is_dotted w
is_plain filter_rules = false
is_plain from_app = false
is_plain app_count = false
is_plain _ = true

plain_or : (form : Form) → (list_all is_plain (slots_of form) ≡ true) ⊎ ((words : List (List ℕ)) → change_of (form_command form words) ≡ None)
plain_or Filter = inr (λ words. refl)
plain_or FilterFrom = inr (λ words. refl)
plain_or FilterSystemFrom = inr (λ words. refl)
plain_or Exercise = inr (λ words. refl)
plain_or _ = inl refl

fit_text : (place : Place) (text : List ℕ) → is_plain place ≡ true → fits place text ≡ true → is_utf8 text ≡ true
fit_text (literal w) text plain fit = ap is_utf8 ((bytes_eq-Decides text w).0 fit) ∙ ascii w plain
fit_text pattern text plain fit = text_where is_pin no_text_no_pin text fit
fit_text remote text plain fit = text_where is_remote_name no_text_no_remote_name text fit
fit_text url text plain fit = text_where is_url no_text_no_url text fit
fit_text ref_name text plain fit = text_where (λ t. is_some (ref_of t)) no_text_no_ref text fit
fit_text app text plain fit = text_where (λ t. is_some (ref_of t)) no_text_no_ref text (app_is_ref text fit)
fit_text app_id text plain fit = text_where is_id no_text_no_id text fit
fit_text type_string text plain fit = text_where is_type_text no_text_no_type text fit
fit_text permission text plain fit = text_where is_option no_text_no_option text fit
fit_text permissions text plain fit = text_where is_option no_text_no_option text fit
fit_text filter_rules text plain fit = absurd (false≢true plain)
fit_text from_app text plain fit = absurd (false≢true plain)
fit_text app_count text plain fit = absurd (false≢true plain)
fit_text launch_options text plain fit = text_where is_launch_option no_text_no_launch_option text fit

-- a word that has a place is text, and the places that are left are such
after_text : (places : List Place) (text : List ℕ) (left : List Place) → list_all is_plain places ≡ true → left_after_word places text ≡ Some left → (is_utf8 text ≡ true) × (list_all is_plain left ≡ true)
after_text [] text left plain is = absurd (cc is)
after_text (p ∷ ps) text left plain is = by (fits p text) (repeats p) refl is (λ on. after_text ps text left parts.1 on)
  where
    parts : (is_plain p ≡ true) × (list_all is_plain ps ≡ true)
    parts = and_parts (is_plain p) (list_all is_plain ps) plain

    by : (b r : Bool) → fits p text ≡ b → cond b (Some (cond r (p ∷ ps) ps)) (cond r (left_after_word ps text) None) ≡ Some left → (left_after_word ps text ≡ Some left → (is_utf8 text ≡ true) × (list_all is_plain left ≡ true)) → (is_utf8 text ≡ true) × (list_all is_plain left ≡ true)
    by true true fit is next = let same : p ∷ ps ≡ left = cc is in (fit_text p text parts.0 fit, subst (λ (l : List Place). list_all is_plain l ≡ true) same plain)
    by true false fit is next = let same : ps ≡ left = cc is in (fit_text p text parts.0 fit, subst (λ (l : List Place). list_all is_plain l ≡ true) same parts.1)
    by false true fit is next = next is
    by false false fit is next = absurd (cc is)

fit_texts : (places : List Place) (words : List (List ℕ)) → list_all is_plain places ≡ true → Fit places words → list_all is_utf8 words ≡ true
fit_texts places [] plain fit = refl
fit_texts places (text ∷ words) plain fit = by (left_after_word places text) refl fit (λ left. fit_texts left words)
  where
    by : (o : Option (List Place)) → left_after_word places text ≡ o → ends (option_and_then (λ left. left_after left words) o) ≡ true → ((left : List Place) → list_all is_plain left ≡ true → Fit left words → list_all is_utf8 words ≡ true) → (is_utf8 text && list_all is_utf8 words) ≡ true
    by None at fit next = absurd (false≢true fit)
    by (Some left) at fit next = let on = after_text places text left plain at in rw on.0 (next left on.1 fit)

one_of : (words : List (List ℕ)) (word : List ℕ) (more : List (List ℕ)) → list_all is_utf8 (words ++ word ∷ more) ≡ true → is_utf8 word ≡ true
one_of [] word more h = (and_parts (is_utf8 word) (list_all is_utf8 more) h).0
one_of (first ∷ words) word more h = one_of words word more (and_parts (is_utf8 first) (list_all is_utf8 (words ++ word ∷ more)) h).1

no_change : (words : List (List ℕ)) (word : List ℕ) (more : List (List ℕ)) → (IsUtf8 word → ⊥) → option_and_then change_of (command_of (words ++ word ∷ more)) ≡ None
no_change words word more bad = by (find (reads (words ++ word ∷ more)) forms) refl
  where
    of_form : (form : Form) → reads (words ++ word ∷ more) form ≡ true → change_of (form_command form (words ++ word ∷ more)) ≡ None
    of_form form fit = elim (plain_or form) [
      | inl plain ↦ absurd (bad (IsUtf8-from_is_utf8 word (one_of words word more (fit_texts (slots_of form) (words ++ word ∷ more) plain fit))))
      | inr none ↦ none (words ++ word ∷ more)
    ]

    by : (o : Option Form) → find (reads (words ++ word ∷ more)) forms ≡ o → option_and_then change_of (option_map (λ form. form_command form (words ++ word ∷ more)) o) ≡ None
    by None is = refl
    by (Some form) is = of_form form (found (words ++ word ∷ more) forms form is)

-- ---- the errors of a line

pub bad_word : (words more : List (List ℕ)) (text word line : List ℕ) (e : WordsError) → words ++ words_in text ≡ words_in line → words_in text ≡ word ∷ more → IsNoText word e → IsNoRecord line e
unfolding batch_change
bad_word words more text word line (BadWords index) is cut bad =
    ap (λ (ws : List (List ℕ)). option_and_then change_of (command_of ws)) (sym is ∙ ap (λ (ws : List (List ℕ)). words ++ ws) cut) ∙ no_change words word more bad
bad_word words more text word line NoMemory is cut bad = tt

-- the error of a `?`
pub passed_on : {A : Type 0} (r : Result A WordsError) (e : WordsError) (line : List ℕ) → IsErrAnd r (λ x. x ≡ e) → IsNoRecord line e → IfErr r (IsNoRecord line)
passed_on (Ok a) e line is h = tt
passed_on (Err x) e line is h = subst (IsNoRecord line) (sym is) h

pub no_command : (words : List (List ℕ)) (line : List ℕ) (e : WordsError) → words ≡ words_in line → IsNoCommand words e → IsNoRecord line e
unfolding batch_change
no_command words line (BadWords index) is h = ap (option_and_then change_of) (ap command_of (sym is) ∙ h.0)
no_command words line NoMemory is h = tt

pub is_record : (words : List (List ℕ)) (line : List ℕ) (c : Command) → words ≡ words_in line → command_of words ≡ Some c → batch_change line ≡ change_of c
unfolding batch_change
is_record words line c is h = ap (option_and_then change_of) (ap command_of (sym is) ∙ h)
