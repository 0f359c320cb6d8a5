-- Options as words, and the ID after them.
use Rattle.std.proofs.Common.{◌≡◌, ℕ, Bool, true, false, cond, eqb, List, [], ◌∷◌, ◌++◌, length, take, drop, Some, None, Result, Ok, Err, IsErrAnd, IfErr, refl, ap, sym, ◌∙◌, subst, arith}
use Rattle.std.specs.Prelude.{codes}
use Rattle.std.specs.List.{list_all}
use Rattle.std.proofs.lemmas.Bool.{and_parts, false_from_ne_true, false≢true}
use Rattle.std.proofs.lemmas.Bool.Decides.{nat_tests}
use Rattle.std.proofs.lemmas.List.{take_at, get_or_push, length_push}
use Rattle.fp_keyfile.specs.Lines.{split_at}
use Rattle.fp_name.specs.Bytes.{is_dotted}
use Rattle.fp_name.specs.Grammar.{is_id}
use Rattle.fp_name.proofs.Bytes.{dotted_id}
use Rattle.fl_options.specs.Options.{is_option}
use Rattle.fl_options.proofs.Lines.{uncut_no_option}
use Rattle.fl_words.specs.declared.command.Command.{Command}
use Rattle.fl_words.specs.declared.command.Command.TheVariants.{Change as Changing}
use Rattle.fl_words.specs.declared.command.Change.TheVariants as changes
use Rattle.fl_words.specs.declared.command.WordsError.{WordsError}
use Rattle.fl_words.specs.declared.command.WordsError.TheVariants.{BadWords, NoMemory}
use Rattle.fl_words.specs.declared.forms.Form.{Form}
use Rattle.fl_words.specs.declared.forms.Form.TheVariants.{OverrideApp}
use Rattle.fl_words.specs.Forms.{literal, app_id, permission, permissions, slots_of, left_after, word_at, last_place, form_command, reads}
use Rattle.fl_words.specs.Reading.{IsMisplaced, IsMisfit}
use Rattle.fl_words.proofs.Reaching.{ends, onto, Fit, next}

-- ---- no ID is an option

dotted_no_equals : (c : ℕ) → is_dotted c ≡ true → eqb c 61 ≡ false
dotted_no_equals c h = grind (arith, nat_tests)

uncut : (text : List ℕ) → list_all is_dotted text ≡ true → split_at 61 text ≡ None
uncut [] h = refl
uncut (c ∷ text) h =
    let parts = and_parts (is_dotted c) (list_all is_dotted text) h in
    rw (dotted_no_equals c parts.0, uncut text parts.1) refl

pub no_id_option : (text : List ℕ) → is_id text ≡ true → is_option text ≡ false
no_id_option text h = uncut_no_option text (uncut text (dotted_id text h))

-- ---- options and then an ID

pub record WithId (words : List (List ℕ)) : Type 0 where
  pub options : List (List ℕ)
  pub id : List ℕ
  pub is : words ≡ options ++ id ∷ []
  pub all : list_all is_option options ≡ true
  pub named : is_id id ≡ true

pub with_id : (words : List (List ℕ)) → Fit (permissions ∷ app_id ∷ []) words → WithId words
with_id [] fit = absurd (false≢true fit)
with_id (a ∷ words) fit = by (is_option a) refl (is_id a) refl fit (with_id words)
  where
    alone : (named : is_id a ≡ true) → (words : List (List ℕ)) → Fit [] words → WithId (a ∷ words)
    alone named [] fit = record { options = []; id = a; is = refl; all = refl; named = named }
    alone named (b ∷ words) fit = absurd (false≢true fit)

    by : (b : Bool) → is_option a ≡ b → (c : Bool) → is_id a ≡ c → ends (onto words (cond b (Some (permissions ∷ app_id ∷ [])) (cond c (Some []) None))) ≡ true → (Fit (permissions ∷ app_id ∷ []) words → WithId words) → WithId (a ∷ words)
    by true option c named fit next =
        let on = next fit in
        record { options = a ∷ on.options; id = on.id; is = ap (λ (ws : List (List ℕ)). a ∷ ws) on.is; all = rw option on.all; named = on.named }
    by false option true named fit next = alone named words fit
    by false option false named fit next = absurd (false≢true fit)

pub fits_id : (options : List (List ℕ)) (id : List ℕ) → list_all is_option options ≡ true → is_id id ≡ true → Fit (permissions ∷ app_id ∷ []) (options ++ id ∷ [])
fits_id [] id all named = rw (no_id_option id named, named) refl
fits_id (a ∷ options) id all named =
    let parts = and_parts (is_option a) (list_all is_option options) all in
    rw parts.0 (fits_id options id parts.1 named)

-- the ID is no option more
pub no_more_options : (options : List (List ℕ)) (id : List ℕ) → list_all is_option options ≡ true → is_id id ≡ true → ends (left_after (permissions ∷ []) (options ++ id ∷ [])) ≡ false
no_more_options [] id all named = rw (no_id_option id named) refl
no_more_options (a ∷ options) id all named =
    let parts = and_parts (is_option a) (list_all is_option options) all in
    rw parts.0 (no_more_options options id parts.1 named)

-- ---- the change of an application's override

last_is : (all : List (List ℕ)) (id : List ℕ) → last_place (all ++ id ∷ []) ≡ length all
last_is all id = let long = length_push all id in omega (arith, long)

pub last_word : (all : List (List ℕ)) (id : List ℕ) → word_at (last_place (all ++ id ∷ [])) (all ++ id ∷ []) ≡ id
last_word all id = ap (λ (n : ℕ). word_at n (all ++ id ∷ [])) (last_is all id) ∙ get_or_push all id [] (length all) refl

words_before : (all : List (List ℕ)) (id : List ℕ) → take (last_place (all ++ id ∷ [])) (all ++ id ∷ []) ≡ all
words_before all id = ap (λ (n : ℕ). take n (all ++ id ∷ [])) (last_is all id) ∙ take_at all (id ∷ []) (length all) refl

pub app_made : (first option : List ℕ) (options : List (List ℕ)) (id : List ℕ) → form_command OverrideApp (first ∷ option ∷ (options ++ id ∷ [])) ≡ Changing (changes.OverrideChange id (option ∷ options))
app_made first option options id =
    let all : List (List ℕ) = first ∷ option ∷ options in
    let words : List (List ℕ) = first ∷ option ∷ (options ++ id ∷ []) in
    ap (λ (x : List ℕ). Changing (changes.OverrideChange x (drop 1 (take (last_place words) words)))) (last_word all id)
    ∙ ap (λ (ws : List (List ℕ)). Changing (changes.OverrideChange id (drop 1 ws))) (words_before all id)

last_named : (a o : List ℕ) (words : List (List ℕ)) → WithId words → is_id (word_at (last_place (a ∷ o ∷ words)) (a ∷ o ∷ words)) ≡ true
last_named a o words w =
    subst (λ (ws : List (List ℕ)). is_id (word_at (last_place (a ∷ o ∷ ws)) (a ∷ o ∷ ws)) ≡ true) (sym w.is)
    (ap is_id (last_word (a ∷ o ∷ w.options) w.id) ∙ w.named)

-- its last word is an ID
last_is_id : (words : List (List ℕ)) → Fit (slots_of OverrideApp) words → is_id (word_at (last_place words) words) ≡ true
last_is_id = next (literal (codes "override")) (permission ∷ permissions ∷ app_id ∷ []) refl (λ (ws : List (List ℕ)). is_id (word_at (last_place ws) ws) ≡ true) (λ a h. next permission (permissions ∷ app_id ∷ []) refl (λ (ws : List (List ℕ)). is_id (word_at (last_place (a ∷ ws)) (a ∷ ws)) ≡ true) (λ o is ws fit. last_named a o ws (with_id ws fit)))

misfit : (words : List (List ℕ)) (e : WordsError) → IsMisplaced app_id (word_at (last_place words) words) e → IsMisfit OverrideApp words e
misfit words (BadWords index) none = false_from_ne_true (reads words OverrideApp) (λ fit. false≢true (sym none ∙ last_is_id words fit))
misfit words NoMemory none = tt

pub app_misfit : (r : Result Command WordsError) (e : WordsError) (words : List (List ℕ)) (form : Form) → form ≡ OverrideApp → IsErrAnd r (λ x. x ≡ e) → IsMisplaced app_id (word_at (last_place words) words) e → IfErr r (IsMisfit form words)
app_misfit (Ok c) e words form is at none = tt
app_misfit (Err x) e words form is at none = subst (λ (f : Form). IsMisfit f words x) (sym is) (subst (IsMisfit OverrideApp words) (sym at) (misfit words e none))
