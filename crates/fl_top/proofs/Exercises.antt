-- The remotes that a command is run over.
use Rattle.std.proofs.Common.{◌≡◌, inl, inr, ℕ, List, true, false, Option, Some, None, refl, sym, subst, arith}
use Rattle.fp_host.specs.Causes.{IsCaused}
use Rattle.fp_host.specs.Frame.{AtEnd, Unchanged}
use Rattle.fp_host.specs.Moments.{Moments, Goes}
use Rattle.fp_host.specs.Outcome.{shows}
use Rattle.fp_host.specs.Remote.{Holdings}
use Rattle.fp_host.proofs.Framed.{IsTold}
use Rattle.fp_host.proofs.Goes.{stays}
use Rattle.fp_small.specs.declared.op.Op.{Op}
use Rattle.fl_words.specs.Forms.{command_of}
use Rattle.fl_words.specs.declared.command.Command.{Command}
use Rattle.fl_words.specs.declared.command.Command.TheVariants.{Exercise as Exercising}
use Rattle.fl_gen.specs.Generator.{IsGenerated}
use Rattle.fl_top.specs.Asked.{OpsBy, AsksFor, AsksRemotes}
use Rattle.fl_change.specs.Performs.{AreToldFor}
use Rattle.fl_top.specs.Exercises.{is_exercise, IsRunOver, IsUnmade, IsRun, IsExercised}
use Rattle.fl_top.specs.Fsck.{HasReport}
use Rattle.fl_top.specs.Moment.{RunsWords, RunsCommand}
use Rattle.fl_top.specs.Return.{WordsWereRun, CommandWasRun}
use Rattle.fl_top.specs.Told.{Checks, HasCauses, told_start}
use Rattle.fl_top.specs.Taken.{WasTaken}
use Rattle.fl_top.specs.Status.{IsOfCommand, IsOfWords, IsAnswered}
use Rattle.fl_change.proofs.Working.{asks_to}
use Rattle.fl_top.proofs.Asked.{asks_more}
use Rattle.fl_top.proofs.Finishing.{goes_command, goes_unread}

-- ---- every command but an exercise

-- it is none
abbrev pub IsNoExercise : Command → Type 0
IsNoExercise command = (apps : ℕ) → command ≡ Exercising apps → ⊥

pub no_exercise : (command : Command) → is_exercise command ≡ false → IsNoExercise command
no_exercise command is apps same = absurd (let both : true ≡ false = subst (λ (k : Command). is_exercise k ≡ false) same is in cc both)

given_is : (command : Command) (holds : Option Holdings) → IsNoExercise command → IsRunOver (Some command) holds holds
given_is (Exercising apps) holds none = absurd (none apps refl)
given_is _ holds none = refl

-- it asks the remotes of the run for all that it does
pub asks_all : (command : Command) (left : Option (List ℕ)) → IsNoExercise command → (op : Op) → OpsBy command left op → AsksFor (Some command) left op
asks_all (Exercising apps) left none op may = absurd (none apps refl)
asks_all _ left none op may = may

module _ (words : List (List ℕ)) (command : Command) (left : Option (List ℕ)) (holds : Option Holdings) (status : ℕ) (is : command_of words ≡ Some command) (none : IsNoExercise command) where
  pub given_runs : {a b : Option Moments} → IsTold a → Goes a b (RunsCommand command (told_start left holds a)) (CommandWasRun command (told_start left holds a) status) → IsRun words left holds status a b
  given_runs {a = a} known goes =
      let runs = goes_command words (told_start left holds a) command status known is goes in
      inl (holds, subst (λ (o : Option Command). IsRunOver o holds holds) (sym is) (given_is command holds none), runs)

  told_all : AreToldFor (AsksFor (Some command) left) holds → AreToldFor (OpsBy command left) holds
  told_all tells = λ asks. tells (asks_to (asks_all command left none) asks)

  pub given_cause : {a : Option Moments} {before now : ℕ} → IsCaused (AreToldFor (OpsBy command left) holds × (status ≡ 3)) a (HasCauses (Some command)) before now
      → IsCaused (AreToldFor (AsksFor (command_of words) left) holds × (status ≡ 3)) a (HasCauses (command_of words)) before now
  given_cause {a = a} {before = before} {now = now} cause =
      subst (λ (o : Option Command). IsCaused (AreToldFor (AsksFor o left) holds × (status ≡ 3)) a (HasCauses o) before now) (sym is)
      (record { later = cause.later; fault = λ fails. cause.fault (told_all fails.0, fails.1) })

  pub given_asks : {new : Option Holdings} {before now : ℕ} → AsksRemotes (OpsBy command left) (status ≡ 4) holds new before now → AsksRemotes (AsksFor (command_of words) left) (status ≡ 4) holds new before now
  given_asks {new = new} {before = before} {now = now} asks =
      subst (λ (o : Option Command). AsksRemotes (AsksFor o left) (status ≡ 4) holds new before now) (sym is) (asks_more (asks_all command left none) (λ four. four) asks)

  pub given_told : AreToldFor (AsksFor (command_of words) left) holds → AreToldFor (OpsBy command left) holds
  given_told tells = told_all (subst (λ (o : Option Command). AreToldFor (AsksFor o left) holds) is tells)

-- ---- an exercise

-- it could be made, or there was no memory
pub exercise_made : {a b : Option Moments} (apps : ℕ) (left : Option (List ℕ)) (holds : Option Holdings) (held : Holdings) (status : ℕ) → holds ≡ Some held → IsGenerated apps held → Goes a b (RunsCommand (Exercising apps) (told_start left holds a)) (CommandWasRun (Exercising apps) (told_start left holds a) status) → IsExercised apps left status a b
exercise_made {a = a} {b = b} apps left holds held status is generated goes =
    inl (held, generated, subst (λ (h : Option Holdings). Goes a b (RunsCommand (Exercising apps) (told_start left h a)) (CommandWasRun (Exercising apps) (told_start left h a) status)) is goes)

pub nothing_done : {a : Option Moments} → IsTold a → Unchanged a a
nothing_done known = record { goes = stays known (λ u. refl) (λ u tree. (refl, tt)) }

-- it reads no input
no_input : (apps n : ℕ) → IsOfCommand (Exercising apps) n → n ≡ 5 → ⊥
no_input apps n status five = elim status [
  | inl is ↦ omega (arith, is, five)
  | inr more ↦ elim more [
    | inl is ↦ omega (arith, is, five)
    | inr more ↦ elim more [
      | inl is ↦ omega (arith, is, five)
      | inr more ↦ elim more [
        | inl is ↦ omega (arith, is.0, five)
        | inr more ↦ elim more [
          | inl is ↦ let both : false ≡ true = is.1 in cc both
          | inr is ↦ omega (arith, is, five)
        ]
      ]
    ]
  ]
]

module _ (words : List (List ℕ)) (apps : ℕ) (left : Option (List ℕ)) (given : Option Holdings) (status : ℕ) (is : command_of words ≡ Some (Exercising apps)) where
  pub exercised_runs : {a b : Option Moments} → IsTold a → IsExercised apps left status a b → IsRun words left given status a b
  exercised_runs {a = a} {b = b} known exercised = elim exercised [
    | inl made ↦
        let runs = goes_command words (told_start left (Some made.0) a) (Exercising apps) status known is made.2 in
        inl (Some made.0, subst (λ (o : Option Command). IsRunOver o given (Some made.0)) (sym is) (made.0, refl, made.1), runs)
    | inr none ↦ inr (subst (λ (o : Option Command). IsUnmade o status a b) (sym is) none)
  ]

  pub exercised_words : IsOfCommand (Exercising apps) status → IsOfWords (command_of words) status
  exercised_words of_command = subst (λ (o : Option Command). IsOfWords o status) (sym is) of_command

  pub exercised_cause : {a : Option Moments} {before now : ℕ} → IsCaused (status ≡ 3) a (HasCauses (Some (Exercising apps))) before now → IsCaused (AreToldFor (AsksFor (command_of words) left) given × (status ≡ 3)) a (HasCauses (command_of words)) before now
  exercised_cause {a = a} {before = before} {now = now} cause =
      subst (λ (o : Option Command). IsCaused (AreToldFor (AsksFor o left) given × (status ≡ 3)) a (HasCauses o) before now) (sym is)
      (record { later = cause.later; fault = λ fails. cause.fault fails.1 })

  pub exercised_found : {a b : Option Moments} → Checks (command_of words) → IsAnswered status → AtEnd (λ u w. HasReport (shows u)) a b
  exercised_found checks answered = absurd (let both : false ≡ true = subst Checks is checks in cc both)

  pub exercised_input : {A : Type 0} → IsOfCommand (Exercising apps) status → status ≡ 5 → A
  exercised_input of_command five = absurd (no_input apps status of_command five)

  pub exercised_taken : {new : Option (List ℕ)} → new ≡ left → WasTaken (command_of words) status left new
  exercised_taken {new = new} same = subst (λ (o : Option Command). WasTaken o status left new) (sym is) (λ reads answered. absurd (let both : false ≡ true = reads in cc both), λ none. same)

-- ---- words that are no command, and words that weren't read

pub no_command_runs : (words : List (List ℕ)) (left : Option (List ℕ)) (holds : Option Holdings) (status : ℕ) {a b : Option Moments} → command_of words ≡ None
    → Goes a b (RunsWords words (told_start left holds a)) (WordsWereRun words (told_start left holds a) status) → IsRun words left holds status a b
no_command_runs words left holds status none goes =
    inl (holds, subst (λ (o : Option Command). IsRunOver o holds holds) (sym none) refl, goes)

-- out of memory for the words; an exercise among them wasn't made
pub unread_runs : (words : List (List ℕ)) (left : Option (List ℕ)) (holds : Option Holdings) {a : Option Moments} → IsTold a → IsRun words left holds 6 a a
unread_runs words left holds {a = a} known = by (command_of words) refl
  where
    over_given : IsRunOver (command_of words) holds holds → IsRun words left holds 6 a a
    over_given is = let goes = goes_unread words (told_start left holds a) known in inl (holds, is, goes)

    unmade : (apps : ℕ) → command_of words ≡ Some (Exercising apps) → IsRun words left holds 6 a a
    unmade apps is = inr (subst (λ (o : Option Command). IsUnmade o 6 a a) (sym is) (refl, nothing_done known))

    plain : (o : Option Command) → command_of words ≡ o → IsRunOver o holds holds → IsRun words left holds 6 a a
    plain o is over = over_given (subst (λ (x : Option Command). IsRunOver x holds holds) (sym is) over)

    by : (o : Option Command) → command_of words ≡ o → IsRun words left holds 6 a a
    by None is = plain None is refl
    by (Some (Exercising apps)) is = unmade apps is
    by (Some command) is = plain (Some command) is refl
