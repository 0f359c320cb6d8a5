-- Words at the places of forms.
use Rattle.std.proofs.Common.{◌≡◌, ℕ, ◌+◌, ◌≤◌, suc, zero, Bool, true, false, cond, ◌&&◌, not, ◌||◌, List, [], ◌∷◌, ◌++◌, length, take, Option, Some, None, refl, sym, ◌∙◌, subst, arith}
use Rattle.std.specs.Prelude.{codes, option_and_then}
use Rattle.std.specs.List.{list_all}
use Rattle.std.specs.Option.{option_map_or, is_some}
use Rattle.std.proofs.lemmas.Bool.{and_parts, false≢true}
use Rattle.std.proofs.lemmas.Slice.Eq.{bytes_eq-Decides}
use Rattle.fp_name.specs.Grammar.{is_remote_name, is_url, is_id}
use Rattle.fp_name.specs.Pins.{is_pin}
use Rattle.fl_options.proofs.Rows.{some_option}
use Rattle.fl_options.proofs.Lines.{uncut_no_option}
use Rattle.fl_words.proofs.RefTexts.{some_ref, some_app}
use Rattle.fl_words.proofs.TypeTexts.{byte_is}
use Rattle.fl_words.proofs.Counts.{one_is}
use Rattle.fl_words.specs.declared.forms.Form.{Form}
use Rattle.fl_words.specs.declared.forms.Form.TheVariants.{OverrideApp}
use Rattle.fl_words.specs.Forms.{Place, literal, pattern, remote, url, ref_name, app, app_id, type_string, permission, permissions, launch_options, filter_rules, from_app, app_count, fits, repeats, slots_of, left_after_word, left_after, reach}

-- no place is left that needs a word
abbrev pub ends : Option (List Place) → Bool
ends left = option_map_or (list_all repeats) left false

-- each word has its place, and no place is left that needs one
abbrev pub Fit : List Place → List (List ℕ) → Type 0
Fit places words = ends (left_after places words) ≡ true

-- ---- one word and those after it

abbrev pub onto : List (List ℕ) → Option (List Place) → Option (List Place)
onto words left = option_and_then (λ ps. left_after ps words) left

-- a place that needs one word takes it
pub taken : (p : Place) (ps : List Place) (a : List ℕ) (words : List (List ℕ)) → repeats p ≡ false → Fit (p ∷ ps) (a ∷ words) → (fits p a ≡ true) × Fit ps words
taken p ps a words once fit = by (fits p a) (repeats p) once fit
  where
    by : (b r : Bool) → r ≡ false → ends (onto words (cond b (Some (cond r (p ∷ ps) ps)) (cond r (left_after_word ps a) None))) ≡ true → (b ≡ true) × Fit ps words
    by true true once fit = absurd (false≢true (sym once))
    by true false once fit = (refl, fit)
    by false true once fit = absurd (false≢true (sym once))
    by false false once fit = absurd (false≢true fit)

needed : (p : Place) (ps : List Place) → repeats p ≡ false → Fit (p ∷ ps) [] → ⊥
needed p ps once fit = false≢true (sym once ∙ (and_parts (repeats p) (list_all repeats ps) fit).0)

-- a place of any number of words, where it is the last one
pub all_taken : (p : Place) (words : List (List ℕ)) → repeats p ≡ true → Fit (p ∷ []) words → list_all (fits p) words ≡ true
all_taken p [] many fit = refl
all_taken p (a ∷ words) many fit = by (fits p a) (repeats p) many (all_taken p words many) fit
  where
    by : (b r : Bool) → r ≡ true → (Fit (p ∷ []) words → list_all (fits p) words ≡ true) → ends (onto words (cond b (Some (cond r (p ∷ []) [])) (cond r None None))) ≡ true → (b && list_all (fits p) words) ≡ true
    by true true many next fit = next fit
    by true false many next fit = absurd (false≢true many)
    by false true many next fit = absurd (false≢true fit)
    by false false many next fit = absurd (false≢true fit)

pub takes_all : (p : Place) (words : List (List ℕ)) → repeats p ≡ true → list_all (fits p) words ≡ true → Fit (p ∷ []) words
takes_all p [] many all = rw many refl
takes_all p (a ∷ words) many all =
    let parts = and_parts (fits p a) (list_all (fits p) words) all in
    rw (parts.0, many) (takes_all p words many parts.1)

-- ---- a form of one, two or three places, each of one word

pub next : (p : Place) (ps : List Place) → repeats p ≡ false → (P : List (List ℕ) → Type 0) → ((a : List ℕ) → fits p a ≡ true → (words : List (List ℕ)) → Fit ps words → P (a ∷ words)) → (words : List (List ℕ)) → Fit (p ∷ ps) words → P words
next p ps once P then [] fit = absurd (needed p ps once fit)
next p ps once P then (a ∷ words) fit = let on = taken p ps a words once fit in then a on.0 words on.1

pub one : (p : Place) → repeats p ≡ false → (P : List (List ℕ) → Type 0) → ((a : List ℕ) → fits p a ≡ true → P (a ∷ [])) → (words : List (List ℕ)) → Fit (p ∷ []) words → P words
one p once P then = next p [] once P (λ a is words fit. last a is words fit)
  where
    last : (a : List ℕ) → fits p a ≡ true → (words : List (List ℕ)) → Fit [] words → P (a ∷ words)
    last a is [] fit = then a is
    last a is (b ∷ words) fit = absurd (false≢true fit)

pub two : (p q : Place) → repeats p ≡ false → repeats q ≡ false → (P : List (List ℕ) → Type 0) → ((a b : List ℕ) → fits p a ≡ true → fits q b ≡ true → P (a ∷ b ∷ [])) → (words : List (List ℕ)) → Fit (p ∷ q ∷ []) words → P words
two p q once again P then = next p (q ∷ []) once P (λ a is. one q again (λ (ws : List (List ℕ)). P (a ∷ ws)) (λ b at. then a b is at))

pub three : (p q r : Place) → repeats p ≡ false → repeats q ≡ false → repeats r ≡ false → (P : List (List ℕ) → Type 0) → ((a b c : List ℕ) → fits p a ≡ true → fits q b ≡ true → fits r c ≡ true → P (a ∷ b ∷ c ∷ [])) → (words : List (List ℕ)) → Fit (p ∷ q ∷ r ∷ []) words → P words
three p q r once again more P then = next p (q ∷ r ∷ []) once P (λ a is. two q r again more (λ (ws : List (List ℕ)). P (a ∷ ws)) (λ b c at on. then a b c is at on))

-- ---- some words for the places that need one

abbrev pub sample : Place → List ℕ
sample (literal w) = w
sample pattern = codes "app/*/*/*"
sample remote = codes "lab"
sample url = codes "file:///lab"
sample ref_name = codes "app/a.b.c/x/1"
sample app = codes "app/a.b.c/x/1"
sample app_id = codes "a.b.c"
sample type_string = 121 ∷ []
sample permission = codes "--share=ipc"
sample from_app = codes "--from=app/a.b.c/x/1"
sample app_count = codes "1"
sample permissions = []
sample launch_options = []
sample filter_rules = []

any_pin : is_pin (codes "app/*/*/*") ≡ true
unfolding is_pin
any_pin = refl

any_name : is_remote_name (codes "lab") ≡ true
unfolding is_remote_name
any_name = refl

any_url : is_url (codes "file:///lab") ≡ true
unfolding is_url
any_url = refl

any_id : is_id (codes "a.b.c") ≡ true
unfolding is_id
any_id = refl

sample_fits : (place : Place) → repeats place ≡ false → fits place (sample place) ≡ true
sample_fits (literal w) once = (bytes_eq-Decides w w).1 refl
sample_fits pattern once = any_pin
sample_fits remote once = any_name
sample_fits url once = any_url
sample_fits ref_name once = some_ref
sample_fits app once = some_app
sample_fits app_id once = any_id
sample_fits type_string once = byte_is
sample_fits permission once = some_option
sample_fits from_app once = some_app
sample_fits app_count once = one_is
sample_fits permissions once = absurd (false≢true (sym once))
sample_fits launch_options once = absurd (false≢true (sym once))
sample_fits filter_rules once = absurd (false≢true (sym once))

abbrev pub samples : List Place → List (List ℕ)
samples [] = []
samples (p ∷ ps) = cond (repeats p) (samples ps) (sample p ∷ samples ps)

-- the first of the words may not stand there
abbrev passed_by : Place → List (List ℕ) → Bool
passed_by p [] = true
passed_by p (text ∷ words) = not (fits p text)

-- no place of any number of words takes the sample of a place after it
abbrev pub is_clear : List Place → Bool
is_clear [] = true
is_clear (p ∷ ps) = (not (repeats p) || passed_by p (samples ps)) && is_clear ps

pub clear_places : (form : Form) → is_clear (slots_of form) ≡ true
clear_places OverrideApp = rw (uncut_no_option (codes "a.b.c") refl) refl
clear_places _ = refl

passed_over : (p : Place) (ps : List Place) (words : List (List ℕ)) → repeats p ≡ true → passed_by p words ≡ true → Fit ps words → Fit (p ∷ ps) words
passed_over p ps [] many passed fit = rw many fit
passed_over p ps (text ∷ words) many passed fit = by (fits p text) (repeats p) many passed
  where
    by : (b r : Bool) → r ≡ true → not b ≡ true → ends (onto words (cond b (Some (cond r (p ∷ ps) ps)) (cond r (left_after_word ps text) None))) ≡ true
    by true r many passed = absurd (false≢true passed)
    by false true many passed = fit
    by false false many passed = absurd (false≢true many)

pub samples_fit : (places : List Place) → is_clear places ≡ true → Fit places (samples places)
samples_fit [] clear = refl
samples_fit (p ∷ ps) clear =
    let parts = and_parts (not (repeats p) || passed_by p (samples ps)) (is_clear ps) clear in
    by (repeats p) refl parts.0 (samples_fit ps parts.1)
  where
    by : (r : Bool) → repeats p ≡ r → (not r || passed_by p (samples ps)) ≡ true → Fit ps (samples ps) → Fit (p ∷ ps) (cond r (samples ps) (sample p ∷ samples ps))
    by true many passed fit = passed_over p ps (samples ps) many passed fit
    by false once passed fit = rw (sample_fits p once, once) fit

-- ---- the places that are left

-- after some words and more
pub left_append : (places : List Place) (words more : List (List ℕ)) → left_after places (words ++ more) ≡ option_and_then (λ left. left_after left more) (left_after places words)
left_append places [] more = refl
left_append places (text ∷ words) more = by (left_after_word places text) (λ left. left_append left words more)
  where
    by : (o : Option (List Place)) → ((left : List Place) → left_after left (words ++ more) ≡ option_and_then (λ ps. left_after ps more) (left_after left words)) → option_and_then (λ left. left_after left (words ++ more)) o ≡ option_and_then (λ left. left_after left more) (option_and_then (λ left. left_after left words) o)
    by None next = refl
    by (Some left) next = next left

clear_after : (places : List Place) (text : List ℕ) (left : List Place) → left_after_word places text ≡ Some left → is_clear places ≡ true → is_clear left ≡ true
clear_after [] text left is clear = absurd (cc is)
clear_after (p ∷ ps) text left is clear = by (fits p text) (repeats p) is (λ on. clear_after ps text left on tail)
  where
    tail : is_clear ps ≡ true
    tail = (and_parts (not (repeats p) || passed_by p (samples ps)) (is_clear ps) clear).1

    by : (b r : Bool) → cond b (Some (cond r (p ∷ ps) ps)) (cond r (left_after_word ps text) None) ≡ Some left → (left_after_word ps text ≡ Some left → is_clear left ≡ true) → is_clear left ≡ true
    by true true is next = let same : p ∷ ps ≡ left = cc is in subst (λ (l : List Place). is_clear l ≡ true) same clear
    by true false is next = let same : ps ≡ left = cc is in subst (λ (l : List Place). is_clear l ≡ true) same tail
    by false true is next = next is
    by false false is next = absurd (cc is)

pub clear_left : (places : List Place) (words : List (List ℕ)) (left : List Place) → left_after places words ≡ Some left → is_clear places ≡ true → is_clear left ≡ true
clear_left places [] left is clear = let same : places ≡ left = cc is in subst (λ (l : List Place). is_clear l ≡ true) same clear
clear_left places (text ∷ words) left is clear = by (left_after_word places text) refl is (λ ps. clear_left ps words left)
  where
    by : (o : Option (List Place)) → left_after_word places text ≡ o → onto words o ≡ Some left → ((ps : List Place) → left_after ps words ≡ Some left → is_clear ps ≡ true → is_clear left ≡ true) → is_clear left ≡ true
    by None at is next = absurd (cc is)
    by (Some ps) at is next = next ps is (clear_after places text ps at clear)

-- ---- how far words reach

pub reach_left : (places : List Place) (words : List (List ℕ)) (n : ℕ) → n ≤ reach places words → is_some (left_after places (take n words)) ≡ true
reach_left places words zero h = refl
reach_left places [] (suc n) h = absurd (omega (arith, h))
reach_left places (text ∷ words) (suc n) h = by (left_after_word places text) h (λ left. reach_left left words n)
  where
    by : (o : Option (List Place)) → suc n ≤ option_map_or (λ left. reach left words + 1) o 0 → ((left : List Place) → n ≤ reach left words → is_some (left_after left (take n words)) ≡ true) → is_some (onto (take n words) o) ≡ true
    by None h next = absurd (omega (arith, h))
    by (Some left) h next = next left (omega (arith, h))

pub left_reach : (places : List Place) (words : List (List ℕ)) (n : ℕ) → n ≤ length words → is_some (left_after places (take n words)) ≡ true → n ≤ reach places words
left_reach places words zero within some = omega arith
left_reach places [] (suc n) within some = absurd (omega (arith, within))
left_reach places (text ∷ words) (suc n) within some = by (left_after_word places text) some (λ left. left_reach left words n (omega (arith, within)))
  where
    by : (o : Option (List Place)) → is_some (onto (take n words) o) ≡ true → ((left : List Place) → is_some (left_after left (take n words)) ≡ true → n ≤ reach left words) → suc n ≤ option_map_or (λ left. reach left words + 1) o 0
    by None some next = absurd (false≢true some)
    by (Some left) some next = let on = next left some in omega (arith, on)

pub reach-within : (places : List Place) (words : List (List ℕ)) → reach places words ≤ length words
reach-within places [] = omega arith
reach-within places (text ∷ words) = by (left_after_word places text) (λ left. reach-within left words)
  where
    by : (o : Option (List Place)) → ((left : List Place) → reach left words ≤ length words) → option_map_or (λ left. reach left words + 1) o 0 ≤ suc (length words)
    by None next = omega arith
    by (Some left) next = let on = next left in omega (arith, on)
