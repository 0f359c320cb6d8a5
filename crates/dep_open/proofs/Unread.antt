-- An installation that shows no state.
use Rattle.std.proofs.Common.{Option, Ok}
use Rattle.fp_host.specs.View.{View}
use Rattle.fp_host.specs.Moments.{Moments, Goes}
use Rattle.fp_host.specs.Frame.{AtEnd, Unchanged}
use Rattle.fp_host.proofs.Framed.{IsTold}
use Rattle.fp_host.proofs.Goes.{begins, goes_on}
use Rattle.fp_host.proofs.Ending.{goes_known}
use Rattle.fp_small.specs.declared.state.State.{State}
use Rattle.dep_open.specs.Open.{Reads, StaysUnread}

-- what only looks changes nothing
pub not_read : {a b : Option Moments} → IsTold a → Unchanged a b → Goes a b StaysUnread StaysUnread
not_read known still = begins known still.goes (λ u w t same. λ none. same) (λ u w t same q. λ none. q.0)

-- and once a state was read, the start showed one
pub read_on : {a b c : Option Moments} {S T : View → View → Type 0} (s : State) → IsTold a → IsTold b → Unchanged a b → AtEnd (λ u w. Reads u (Ok s)) a b → Goes b c S T → Goes a c StaysUnread StaysUnread
read_on {a = a} {b = b} s known known_b still tells next =
    let first : Goes a b StaysUnread (λ u w. Reads u (Ok s)) = begins known (goes_known still.goes tells) (λ u w t same. λ none. same) (λ u w t same q. q.1) in
    goes_on known_b first next (λ u v w t p q step. λ none. absurd (none s q)) (λ u v w t p q step last. λ none. absurd (none s q))
