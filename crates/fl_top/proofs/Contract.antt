-- The contract of a run whose words are no command, or weren't read.
use Rattle.std.proofs.Common.{◌≡◌, ◌⊎◌, inl, inr, ℕ, List, Option, Some, None, refl, sym, subst, arith}
use Rattle.fp_host.specs.Causes.{IsCaused}
use Rattle.fp_host.specs.Moments.{Goes}
use Rattle.fp_host.proofs.Framed.{IsTold}
use Rattle.fp_small.specs.declared.op.Op.{Op}
use Rattle.fp_small.specs.declared.refusal.Refusal.TheVariants.{BadWords}
use Rattle.ost_walk.specs.Ends.{Outside}
use Rattle.fl_lines.specs.Lines.{refusal_text}
use Rattle.fl_words.specs.Forms.{command_of, bad_index}
use Rattle.fl_words.specs.declared.command.Command.{Command}
use Rattle.fl_change.specs.Says.{Says, Refuses}
use Rattle.fl_top.specs.Asked.{AsksFor, AsksRemotes}
use Rattle.fl_top.specs.Contract.{Feed, RunsCommandLine}
use Rattle.fl_top.specs.Status.{IsStatus, IsOfWords}
use Rattle.fl_top.specs.Taken.{WasTaken}
use Rattle.fl_top.specs.Told.{Checks, IsChange, told_start}
use Rattle.fl_top.proofs.Asked.{not_asked}
use Rattle.fl_top.proofs.Ending.{not_answered}
use Rattle.fl_top.proofs.Exercises.{no_command_runs, unread_runs}
use Rattle.fl_top.proofs.Finishing.{goes_no_command, took_nothing, starves}

-- an end of words is a status
pub is_status : (o : Option Command) (n : ℕ) → IsOfWords o n → IsStatus n
is_status None n of = elim of [
  | inl is ↦ omega (arith, is)
  | inr more ↦ elim more [ inl is ↦ omega (arith, is) | inr is ↦ omega (arith, is) ]
]
is_status (Some command) n of = elim of [
  | inl is ↦ omega (arith, is)
  | inr more ↦ elim more [
    | inl is ↦ omega (arith, is)
    | inr more ↦ elim more [
      | inl is ↦ omega (arith, is)
      | inr more ↦ elim more [
        | inl is ↦ omega (arith, is.0)
        | inr more ↦ elim more [ inl is ↦ omega (arith, is.0) | inr is ↦ omega (arith, is) ]
      ]
    ]
  ]
]

-- the remotes of the run aren't asked
pub unasked_remotes : (May : Op → Type 0) (failed : Type 0) (u w : Outside) → w.holdings ≡ u.holdings → w.remote_faults ≡ u.remote_faults → (failed → ⊥) → AsksRemotes May failed u.holdings w.holdings u.remote_faults w.remote_faults
unasked_remotes May failed u w same stood none = record { same = same; later = omega (arith, stood); rose = λ four. absurd (none four); unasked = λ why. (stood, none) }

pub no_command_line : (line : List (List ℕ)) (index result : ℕ) (u w : Outside) (feed : Feed) → IsTold u.told → command_of line ≡ None → index ≡ bad_index line → (result ≡ 2) ⊎ ((result ≡ 3) ⊎ (result ≡ 6))
    → Goes u.told w.told (Says (refusal_text (BadWords index))) (Refuses (refusal_text (BadWords index)) 2 result) → IsCaused (result ≡ 3) u.told (λ v. Unit {0}) u.host_faults w.host_faults
    → w.holdings ≡ u.holdings → w.remote_faults ≡ u.remote_faults → RunsCommandLine line result u w feed feed
no_command_line line index result u w feed known none bad ends says cause same stood = record {
  status = is_status None result ends;
  words = subst (λ (o : Option Command). IsOfWords o result) (sym none) ends;
  runs = no_command_runs line feed.left u.holdings result none (goes_no_command line (told_start feed.left u.holdings u.told) index result known none bad says);
  fault_has_cause = record { later = cause.later; fault = λ is m told can. cause.fault is.1 m told tt };
  found = λ checks answered. absurd (subst Checks none checks);
  exports = λ change done tells. absurd (subst IsChange none change);
  remotes = unasked_remotes (AsksFor (command_of line) feed.left) (result ≡ 4) u w same stood (λ four. elim ends [
    | inl is ↦ omega (arith, four, is)
    | inr more ↦ elim more [ inl is ↦ omega (arith, four, is) | inr is ↦ omega (arith, four, is) ]
  ]);
  input = λ five. absurd (elim ends [
    | inl is ↦ omega (arith, five, is)
    | inr more ↦ elim more [ inl is ↦ omega (arith, five, is) | inr is ↦ omega (arith, five, is) ]
  ]);
  taken = subst (λ (o : Option Command). WasTaken o result feed.left feed.left) (sym none) refl;
  later = omega arith;
}

-- there was no memory for the words
pub unread_line : (line : List (List ℕ)) (u : Outside) (feed : Feed) → IsTold u.told → RunsCommandLine line 6 u u feed feed
unread_line line u feed known = record {
  status = is_status (command_of line) 6 (starves (command_of line));
  words = starves (command_of line);
  runs = unread_runs line feed.left u.holdings known;
  fault_has_cause = record { later = omega arith; fault = λ is. absurd (let three : 6 ≡ 3 = is.1 in omega (arith, three)) };
  found = λ checks answered. absurd (not_answered 6 (omega arith) answered);
  exports = λ change done tells. absurd (let none : 6 ≡ 0 = done in omega (arith, none));
  remotes = not_asked (AsksFor (command_of line) feed.left) (6 ≡ 4) u.holdings u.remote_faults (λ four. omega (arith, four));
  input = λ five. absurd (let is : 6 ≡ 5 = five in omega (arith, is));
  taken = took_nothing (command_of line) feed.left;
  later = omega arith;
}
