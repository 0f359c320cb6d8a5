-- What a batch holds.
use Rattle.std.proofs.Common.{◌≡◌, ℕ, ◌+◌, suc, Bool, true, false, List, [], ◌∷◌, ◌++◌, Option, Some, None, Result, Ok, Err, refl, ap, sym, ◌∙◌, subst, arith}
use Rattle.std.proofs.lemmas.List.{append-nil, append_assoc}
use Rattle.std.specs.List.{list_all, filter_map, cons_option, position}
use Rattle.std.specs.Option.{option_map}
use Rattle.fp_keyfile.specs.Lines.{lines_of}
use Rattle.fp_keyfile.proofs.FirstPlace.{position-cons}
use Rattle.std.specs.Prelude.{option_and_then}
use Rattle.fl_words.specs.declared.command.Command.{Command}
use Rattle.fl_words.specs.declared.command.Command.TheVariants.{Change as Changing}
use Rattle.fl_words.specs.declared.command.Change.{Change}
use Rattle.fl_words.specs.Forms.{command_of}
use Rattle.fl_words.specs.Words.{is_change}
use Rattle.fl_words.specs.Batch.{words_in, change_of, batch_change, asks_none, changes_in, batch_of}
use Rattle.fl_words.proofs.ReadBack.{read_back}

-- ---- what stands in it

one_change : (command : Command) (c : Change) → change_of command ≡ Some c → Some command ≡ Some (Changing c)
one_change (Changing change) c h = let same : change ≡ c = cc h in ap (λ (x : Change). Some (Changing x)) same
one_change _ c h = absurd (cc h)

change_is : (o : Option Command) (c : Change) → option_and_then change_of o ≡ Some c → o ≡ Some (Changing c)
change_is None c h = absurd (cc h)
change_is (Some command) c h = one_change command c h

pub line_good : (line : List ℕ) (c : Change) → batch_change line ≡ Some c → is_change c ≡ true
unfolding batch_change
line_good line c h = (read_back (words_in line) (Changing c) (change_is (command_of (words_in line)) c h)).1

one_more : (test : Change → Bool) (o : Option Change) (cs : List Change) → ((c : Change) → o ≡ Some c → test c ≡ true) → list_all test cs ≡ true → list_all test (cons_option o cs) ≡ true
one_more test None cs good h = h
one_more test (Some c) cs good h = rw (good c refl) h

all_good : (test : Change → Bool) → ((line : List ℕ) (c : Change) → batch_change line ≡ Some c → test c ≡ true) → (lines : List (List ℕ)) → list_all test (filter_map batch_change lines) ≡ true
all_good test good [] = refl
all_good test good (line ∷ lines) = one_more test (batch_change line) (filter_map batch_change lines) (good line) (all_good test good lines)

ok_is : (o : Option ℕ) (lines : List (List ℕ)) (cs : List Change) → changes_in o lines ≡ Ok cs → filter_map batch_change lines ≡ cs
ok_is None lines cs h = cc h
ok_is (Some before) lines cs h = absurd (cc h)

-- what holds of the change of each line holds of each change of the batch
pub batch_all : (test : Change → Bool) → ((line : List ℕ) (c : Change) → batch_change line ≡ Some c → test c ≡ true) → (bytes : List ℕ) (changes : List Change) → batch_of bytes ≡ Ok changes → list_all test changes ≡ true
unfolding batch_of
batch_all test good bytes changes h =
    subst (λ (cs : List Change). list_all test cs ≡ true) (ok_is (position asks_none (lines_of bytes)) (lines_of bytes) changes h) (all_good test good (lines_of bytes))

-- ---- reading it line by line

-- what these changes and the lines after them come to, n lines being read
abbrev pub ending : List Change → ℕ → Option ℕ → List (List ℕ) → Result (List Change) ℕ
ending done n None lines = Ok (done ++ filter_map batch_change lines)
ending done n (Some before) lines = Err (n + before + 1)

abbrev pub going_on : List Change → ℕ → List (List ℕ) → Result (List Change) ℕ
going_on done n lines = ending done n (position asks_none lines) lines

position_next : (test : List ℕ → Bool) (line : List ℕ) (lines : List (List ℕ)) → test line ≡ false → position test (line ∷ lines) ≡ option_map (λ k. suc k) (position test lines)
position_next test line lines e = position-cons test line lines ∙ rw e refl

position_here : (test : List ℕ → Bool) (line : List ℕ) (lines : List (List ℕ)) → test line ≡ true → position test (line ∷ lines) ≡ Some 0
position_here test line lines e = position-cons test line lines ∙ rw e refl

began : (o : Option ℕ) (lines : List (List ℕ)) → ending [] 0 o lines ≡ changes_in o lines
began None lines = refl
began (Some before) lines = ap Err (omega arith)

pub begin : (bytes : List ℕ) → going_on [] 0 (lines_of bytes) ≡ batch_of bytes
unfolding batch_of
begin bytes = began (position asks_none (lines_of bytes)) (lines_of bytes)

stepped : (o : Option ℕ) (done : List Change) (n : ℕ) (line : List ℕ) (lines : List (List ℕ)) (c : Change) → batch_change line ≡ Some c → ending (done ++ c ∷ []) (n + 1) o lines ≡ ending done n (option_map (λ k. suc k) o) (line ∷ lines)
stepped None done n line lines c h = rw h (ap Ok (append_assoc done (c ∷ []) (filter_map batch_change lines)))
stepped (Some before) done n line lines c h = ap Err (omega arith)

asks_one : (line : List ℕ) (c : Change) → batch_change line ≡ Some c → asks_none line ≡ false
asks_one line c h = rw h refl

-- a line that asks for a change
pub step : (done : List Change) (n : ℕ) (line : List ℕ) (lines : List (List ℕ)) (c : Change) → batch_change line ≡ Some c → going_on (done ++ c ∷ []) (n + 1) lines ≡ going_on done n (line ∷ lines)
step done n line lines c h =
    stepped (position asks_none lines) done n line lines c h ∙ ap (λ (o : Option ℕ). ending done n o (line ∷ lines)) (sym (position_next asks_none line lines (asks_one line c h)))

-- a line without one
pub stop : (done : List Change) (n : ℕ) (line : List ℕ) (lines : List (List ℕ)) → batch_change line ≡ None → going_on done n (line ∷ lines) ≡ Err (n + 1)
stop done n line lines h =
    let none : asks_none line ≡ true = rw h refl in
    ap (λ (o : Option ℕ). ending done n o (line ∷ lines)) (position_here asks_none line lines none) ∙ ap Err (omega arith)

-- no line left
pub finish : (done : List Change) (n : ℕ) → going_on done n [] ≡ Ok done
finish done n = ap Ok (append-nil done)
