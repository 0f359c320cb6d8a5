use Rattle.std.proofs.Common.{rules, ◌≡◌, List, ℕ, [], ◌∷◌, Result, Ok, Err, refl, subst}
use Rattle.bus_frame.specs.declared.error.FrameError.{FrameError}
use Rattle.bus_frame.specs.declared.error.FrameError.TheVariants.{Bad, NoMemory}
use Rattle.bus_stream.specs.declared.cutter.Cut.{Cut}
use Rattle.bus_stream.specs.declared.cutter.Cut.TheVariants as cut
use Rattle.bus_stream.specs.Stream.{CutterAt}
use Rattle.bus_stream.specs.Cuts.{AnswersCut, with_given, AreAll}
use Rattle.bus_proxy.proofs.Fronts.{nothing_taken, whole_waits}
use Rattle.bus_proxy.proofs.stream.Stream.next.Goals as goal

pub returns-in-Ok-Message : goal.returns-in-Ok-Message
returns-in-Ok-Message c =
    let old : List ℕ = c.args.self.now.cutter in
    let new : List ℕ = c.next.new.self in
    let is : c.next.result ≡ Ok (cut.Message c.in-Ok-Message.header c.in-Ok-Message.message) = search rules in (
      refl,
      record {
        cut = subst (λ (r : Result Cut FrameError). CutterAt new old (with_given r [])) is (c.next.ensures.at old [] (nothing_taken old));
        count = c.saturating_add-self.ensures;
      },
    )

pub returns-in-Ok-NotYet : goal.returns-in-Ok-NotYet
returns-in-Ok-NotYet c =
    let old : List ℕ = c.args.self.now.cutter in
    let new : List ℕ = c.next.new.self in
    let is : c.next.result ≡ Ok cut.NotYet = search rules in
    let exact = subst (λ (r : Result Cut FrameError). AnswersCut r old new) is c.next.ensures.exact in
    let all = subst (λ (r : Result Cut FrameError). AreAll r old []) is (c.next.ensures.all old [] (nothing_taken old)) in
    (λ i. record { cutter = exact.1 i; count = c.args.self.now.count }, all.0, all.1)

pub returns-in-Err-Bad : goal.returns-in-Err-Bad
returns-in-Err-Bad c =
    let old : List ℕ = c.args.self.now.cutter in
    let new : List ℕ = c.next.new.self in
    let is : c.next.result ≡ Err (Bad c.in-Err-Bad.rule) = search rules in
    let exact = subst (λ (r : Result Cut FrameError). AnswersCut r old new) is c.next.ensures.exact in
    let all = subst (λ (r : Result Cut FrameError). AreAll r old []) is (c.next.ensures.all old [] (nothing_taken old)) in
    (λ i. record { cutter = exact.1 i; count = c.args.self.now.count }, refl, refl, all.0, all.1)

pub returns-in-Err-NoMemory : goal.returns-in-Err-NoMemory
returns-in-Err-NoMemory c =
    let old : List ℕ = c.args.self.now.cutter in
    let new : List ℕ = c.next.new.self in
    let is : c.next.result ≡ Err NoMemory = search rules in
    let exact = subst (λ (r : Result Cut FrameError). AnswersCut r old new) is c.next.ensures.exact in
    whole_waits old exact.0
