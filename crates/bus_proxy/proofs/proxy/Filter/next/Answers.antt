use Rattle.std.proofs.Common.{rules, ◌≡◌, Result, Ok, Err, refl, sym, subst}
use Rattle.bus_proxy.specs.declared.error.FilterError.{FilterError}
use Rattle.bus_proxy.specs.declared.stream.Arrival.{Arrival}
use Rattle.bus_proxy.specs.declared.stream.Arrival.TheVariants as arrival
use Rattle.bus_proxy.specs.declared.streams.Streams.{Streams}
use Rattle.bus_proxy.specs.Streaming.{StreamsGave}
use Rattle.bus_proxy.specs.Filters.{IsNotYet}
use Rattle.bus_proxy.proofs.Giving.{gives_message, gives_none, gives_err, message_not, message_none, none_not, err_not, err_is}
use Rattle.bus_proxy.proofs.proxy.Filter.next.Goals as goal

pub returns-in-Err-clause-at : goal.returns-in-Err-clause-at
returns-in-Err-clause-at g c = λ s fed taken given at.
    let is : c.next.result ≡ Err c.in-Err.error = search rules in
    gives_err c.in-Err.error c.args.self.now _ s fed taken given at (subst (λ (r : Result Arrival FilterError). StreamsGave r c.args.self.now.streams c.next.new.self) is c.next.ensures.gave) refl

pub returns-in-Err-clause-not_yet : goal.returns-in-Err-clause-not_yet
returns-in-Err-clause-not_yet g c = λ s fed taken given at all.
    let is : c.next.result ≡ Err c.in-Err.error = search rules in
    err_not c.in-Err.error c.args.self.now.streams c.next.new.self fed taken at.streams all (subst (λ (r : Result Arrival FilterError). StreamsGave r c.args.self.now.streams c.next.new.self) is c.next.ensures.gave)

pub returns-in-Err-clause-bad : goal.returns-in-Err-clause-bad
returns-in-Err-clause-bad g c = λ s fed taken given at all side index rule broken.
    let is : c.next.result ≡ Err c.in-Err.error = search rules in
    err_is c.in-Err.error c.args.self.now.streams c.next.new.self fed taken side index rule at.streams all broken (subst (λ (r : Result Arrival FilterError). StreamsGave r c.args.self.now.streams c.next.new.self) is c.next.ensures.gave)

pub returns-in-Ok-Message-clause-at : goal.returns-in-Ok-Message-clause-at
returns-in-Ok-Message-clause-at g c = λ s fed taken given at.
    let m = arrival.Message c.in-Ok-Message.side c.in-Ok-Message.header c.in-Ok-Message.message in
    let is : c.next.result ≡ Ok m = search rules in
    let gave = subst (λ (r : Result Arrival FilterError). StreamsGave r c.args.self.now.streams c.next.new.self) is c.next.ensures.gave in
    gives_message c.take.result c.args.self.now c.take.new.self s fed taken given c.in-Ok-Message.side c.in-Ok-Message.header c.in-Ok-Message.message at
    (subst (λ (t : Streams). StreamsGave (Ok m) c.args.self.now.streams t) (sym c.take.ensures.streams) gave) (c.take.ensures.made s taken at.judge)

pub returns-in-Ok-Message-clause-not_yet : goal.returns-in-Ok-Message-clause-not_yet
returns-in-Ok-Message-clause-not_yet g c = λ s fed taken given at all.
    let is : c.next.result ≡ Ok (arrival.Message c.in-Ok-Message.side c.in-Ok-Message.header c.in-Ok-Message.message) = search rules in
    let gave = subst (λ (r : Result Arrival FilterError). StreamsGave r c.args.self.now.streams c.next.new.self) is c.next.ensures.gave in
    message_not c.take.result c.args.self.now.streams c.next.new.self fed taken c.in-Ok-Message.side c.in-Ok-Message.header c.in-Ok-Message.message at.streams all gave

pub returns-in-Ok-Message-clause-bad : goal.returns-in-Ok-Message-clause-bad
returns-in-Ok-Message-clause-bad g c = λ s fed taken given at all side index rule broken.
    let is : c.next.result ≡ Ok (arrival.Message c.in-Ok-Message.side c.in-Ok-Message.header c.in-Ok-Message.message) = search rules in
    let gave = subst (λ (r : Result Arrival FilterError). StreamsGave r c.args.self.now.streams c.next.new.self) is c.next.ensures.gave in
    message_none c.args.self.now.streams c.next.new.self fed taken c.in-Ok-Message.side c.in-Ok-Message.header c.in-Ok-Message.message at.streams all gave

pub returns-in-Ok-NotYet-clause-at : goal.returns-in-Ok-NotYet-clause-at
returns-in-Ok-NotYet-clause-at g c = λ s fed taken given at.
    let is : c.next.result ≡ Ok arrival.NotYet = search rules in
    gives_none c.args.self.now _ s fed taken given at (subst (λ (r : Result Arrival FilterError). StreamsGave r c.args.self.now.streams c.next.new.self) is c.next.ensures.gave) refl

pub returns-in-Ok-NotYet-clause-bad : goal.returns-in-Ok-NotYet-clause-bad
returns-in-Ok-NotYet-clause-bad g c = λ s fed taken given at all side index rule broken.
    let is : c.next.result ≡ Ok arrival.NotYet = search rules in
    none_not c.args.self.now.streams c.next.new.self fed taken side index rule at.streams all broken (subst (λ (r : Result Arrival FilterError). StreamsGave r c.args.self.now.streams c.next.new.self) is c.next.ensures.gave)
