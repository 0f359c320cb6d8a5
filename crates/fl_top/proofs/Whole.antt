-- A run that nothing disturbs gives its whole answer.
use Rattle.std.proofs.Common.{◌≡◌, ◌⊎◌, inl, inr, ℕ, List, Option, Some, None, arith}
use Rattle.fp_host.specs.View.{View}
use Rattle.fp_host.specs.Causes.{IsCaused}
use Rattle.fp_host.specs.Moments.{Moments, Rose}
use Rattle.fp_host.specs.Frame.{AtEnd}
use Rattle.fp_host.specs.Remote.{Holdings}
use Rattle.fp_host.proofs.Ending.{ends_goes}
use Rattle.fp_host.proofs.Framed.{IsTold}
use Rattle.fl_words.specs.Forms.{command_of}
use Rattle.fl_words.specs.declared.command.Command.{Command}
use Rattle.fl_change.specs.Answer.{Answer}
use Rattle.fl_top.specs.Answer.{answer}
use Rattle.fl_top.specs.Exercises.{IsRun}
use Rattle.fl_top.specs.Return.{WasRun, WordsWereRun}
use Rattle.fl_top.specs.Told.{Told, HasCauses, told_start}
use Rattle.fl_top.specs.Status.{IsAnswered, IsOfWords}
use Rattle.fl_top.specs.Whole.{IsFit, StartsFit, IsWhole, WasWhole, EndsWhole}
use Rattle.fl_top.proofs.Over.{sound_counts}

-- a status that is no fault is that of a whole answer, or says that memory ran out
answered_or_out : (command : Option Command) (status : ℕ) → IsOfWords command status → (status ≡ 3 → ⊥) → (status ≡ 4 → ⊥) → (status ≡ 5 → ⊥) → IsAnswered status ⊎ (status ≡ 6)
answered_or_out None status is three four five = elim is [
  | inl two ↦ inl (inr (inr two))
  | inr more ↦ elim more [
    | inl fault ↦ absurd (three fault)
    | inr out ↦ inr out
  ]
]
answered_or_out (Some command) status is three four five = elim is [
  | inl done ↦ inl (inl done)
  | inr more ↦ elim more [
    | inl refused ↦ inl (inr (inl refused))
    | inr more ↦ elim more [
      | inl fault ↦ absurd (three fault)
      | inr more ↦ elim more [
        | inl remote ↦ absurd (four remote.0)
        | inr more ↦ elim more [
          | inl input ↦ absurd (five input.0)
          | inr out ↦ inr out
        ]
      ]
    ]
  ]
]

not_three : (status : ℕ) → status ≡ 6 → status ≡ 3 → ⊥
not_three status out three = omega (arith, out, three)

-- what ran as an answer says, and had no fault, is whole
whole_of : (held : Holdings) (a : Answer) (status : ℕ) (u w : View) → IsAnswered status ⊎ (status ≡ 6) → WasRun held a status u w → IsWhole held a status u w
whole_of held a status u w ends ran = elim ends [
  | inl answered ↦ inl (ran.answers answered)
  | inr out ↦ inr (out, ran.stands (not_three status out))
]

-- a fit installation gives causes to a command
causes_of : (command : Option Command) (u : View) → IsFit command u → HasCauses command u
causes_of command u fit = record { serves = inr (inl fit.sound); listable = fit.listable; free = fit.free }

was_whole : (words : List (List ℕ)) (t : Told) (status : ℕ) (u w : View) → IsFit (command_of words) u → IsAnswered status ⊎ (status ≡ 6) → WordsWereRun words t status u w → WasWhole words t status u w
was_whole words t status u w fit ends ran = record {
  each = λ given is shown counts. whole_of given.held (answer words given shown) status u w ends (ran.ended given is shown counts (inl (inr (inl fit.sound))));
  one = λ given. sound_counts (answer words given) u fit.sound;
}

-- Where the host told its content at the start, a status has its cause there.
ends_whole : (words : List (List ℕ)) (t : Told) (status : ℕ) (a b : Option Moments) → StartsFit (command_of words) a → ((m : Moments) → a ≡ Some m → IsAnswered status ⊎ (status ≡ 6)) → AtEnd (WordsWereRun words t status) a b → AtEnd (WasWhole words t status) a b
ends_whole words t status a b fit ends at = record {
  goes = record {
    untold = at.goes.untold;
    told = λ m is. let end = at.goes.told m is in (end.0, end.1, end.2, was_whole words t status m.now end.0.now (fit m is) (ends m is) end.3);
  };
}

pub whole_run : (words : List (List ℕ)) (left : Option (List ℕ)) (given : Option Holdings) (status : ℕ) (a b : Option Moments) → IsTold a → StartsFit (command_of words) a → ((m : Moments) → a ≡ Some m → IsAnswered status ⊎ (status ≡ 6)) → IsRun words left given status a b → EndsWhole words left given status a b
whole_run words left given status a b known fit ends run = elim run [
  | inl made ↦ inl (made.0, made.1, ends_whole words (told_start left made.0 a) status a b fit ends (ends_goes known made.2))
  | inr none ↦ inr none
]

-- no count of faults rose, so the status is that of the answer, or 6
pub undisturbed : (words : List (List ℕ)) (status : ℕ) (a : Option Moments) (Told : Type 0) (before now : ℕ) → StartsFit (command_of words) a → Told → IsOfWords (command_of words) status → IsCaused (Told × (status ≡ 3)) a (HasCauses (command_of words)) before now → (Rose before now → ⊥) → (status ≡ 4 → ⊥) → (status ≡ 5 → ⊥) → (m : Moments) → a ≡ Some m → IsAnswered status ⊎ (status ≡ 6)
undisturbed words status a Told before now fit told of cause calm four five m is =
    answered_or_out (command_of words) status of (λ three. calm (cause.fault (told, three) m is (causes_of (command_of words) m.now (fit m is)))) four five
