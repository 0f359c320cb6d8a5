-- Functions that only look.
use Rattle.std.proofs.Common.{◌≡◌, ℕ, List, Option, Result, refl, ◌∙◌}
use Rattle.fp_host.specs.Paths.{Elements}
use Rattle.fp_host.specs.View.{View}
use Rattle.fp_host.specs.Moments.{Moments, Makes}
use Rattle.fp_host.specs.Reads.{StatOf, ListOf, ReadOf, LinkOf}
use Rattle.fp_host.specs.Frame.{Observes}
use Rattle.fp_host.specs.declared.host.HostError.{HostError}
use Rattle.fp_host.specs.declared.host.Stat.{Stat}
use Rattle.fp_host.proofs.Goes.{goes_on, stays, makes_goes}
use Rattle.fp_host.proofs.Framed.{IsTold}

pub looks_start : {a : Option Moments} → IsTold a → Observes (λ v. Unit {0}) a a
looks_start told = record { goes = stays told (λ u. refl) (λ u t. (refl, tt)) }

module _ {T : View → Type 0} where
  -- a function that looks, after others that do
  pub looks_within : {a b c : Option Moments} {U : View → Type 0} → Observes U b c → Observes T a b → IsTold b → Observes T a c
  looks_within inner so_far told = record { goes = goes_on told so_far.goes inner.goes (λ u v w t r q s. s ∙ r) (λ u v w t r q s e. (e.0 ∙ q.0, q.1)) }

  looks_call : {a b c : Option Moments} {S : View → View → Type 0} → ((v w : View) → S v w → w ≡ v) → Makes S b c → Observes T a b → IsTold b → Observes T a c
  looks_call same call so_far told = record { goes = goes_on told so_far.goes (makes_goes call) (λ u v w t r q s. same v w s ∙ r) (λ u v w t r q s e. (same v w e ∙ q.0, q.1)) }

  pub looks_stat : {a b c : Option Moments} {p : Elements} {r : Result Stat HostError} → Makes (StatOf p r) b c → Observes T a b → IsTold b → Observes T a c
  looks_stat call so_far told = looks_call (λ v w s. s.same) call so_far told

  pub looks_list : {a b c : Option Moments} {p : Elements} {r : Result (List (List ℕ)) HostError} → Makes (ListOf p r) b c → Observes T a b → IsTold b → Observes T a c
  looks_list call so_far told = looks_call (λ v w s. s.same) call so_far told

  pub looks_read : {a b c : Option Moments} {p : Elements} {at : ℕ} {into : List ℕ} {r : Result ℕ HostError} → Makes (ReadOf p at into r) b c → Observes T a b → IsTold b → Observes T a c
  looks_read call so_far told = looks_call (λ v w s. s.same) call so_far told

  pub looks_read_link : {a b c : Option Moments} {p : Elements} {r : Result (List ℕ) HostError} → Makes (LinkOf p r) b c → Observes T a b → IsTold b → Observes T a c
  looks_read_link call so_far told = looks_call (λ v w s. s.same) call so_far told

pub ruleset looks = (looks_within, looks_stat, looks_list, looks_read, looks_read_link, looks_start)
