use Rattle.std.proofs.Common.{◌≡◌, ◌∙◌, false, length, sym, ap}
use Rattle.std.proofs.lemmas.Bool.{false≢true}
use Rattle.bus_policy.specs.declared.level.Level.TheVariants as level
use Rattle.bus_policy.specs.Watching.{Known}
use Rattle.bus_policy.proofs.Keeping.{some_wait, none_wait}
use Rattle.bus_policy.proofs.peer.Peer.is_blank.Goals as goal
use Rattle.bus_policy.proofs.peer.Peer.is_blank.Goals.{in-None, in_default}

pub returns-then-not-is_empty-clause-known : goal.returns-then-not-is_empty-clause-known
returns-then-not-is_empty-clause-known g c = λ is.
    absurd (some_wait c.args.self.now.waiting.keys (λ e. false≢true (sym c.if-not-is_empty.true ∙ c.is_empty.ensures.1 e)) (λ n. ap (λ (k : Known). k.waits n) is))

pub returns-clause-blank : goal.returns-clause-blank
returns-clause-blank g c = λ is.
    let peer = c.args.self.now in
    let none : length peer.waiting.keys ≡ 0 = c.is_empty.ensures.0 c.if-not-is_empty.false in
    let had : peer.had ≡ level.None = elim c.match-matches.branch [
      | in-None w ↦ w.in-None.is
      | in_default w ↦ absurd (false≢true (sym w.matches-is ∙ c.if-not-matches.false))
    ] in
    let meant = sym c.deref.ensures.value ∙ c.are_unmeant.ensures.blank is in
    λ i. record { had = had i; wrote = c.if-self.false i; meant = meant i; waits = λ n. none_wait peer.waiting.keys n none i }
