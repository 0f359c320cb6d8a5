use Rattle.std.proofs.Common.{Some, ap, sym, ◌∙◌}
use Rattle.bus_policy.specs.declared.peer.RawNews.{RawNews}
use Rattle.bus_policy.specs.Watching.{known_of, with_message_if, with_news}
use Rattle.bus_policy.proofs.Telling.{on_err}
use Rattle.bus_policy.proofs.peer.Peer.learn.Goals as goal

pub returns-in_err-add_call_if-in-Message-clause-err : goal.returns-in_err-add_call_if-in-Message-clause-err
returns-in_err-add_call_if-in-Message-clause-err g c = on_err c.from_residual.result (c.in_err-add_call_if-in-Message.ensures.err c.args.rules.now)

pub returns-in_ok-add_call_if-in-Message-clause-ok : goal.returns-in_ok-add_call_if-in-Message-clause-ok
returns-in_ok-add_call_if-in-Message-clause-ok g c =
    c.add_message_if.ensures c.args.rules.now ∙ ap (with_message_if c.in-Message.wrote) (c.in_ok-add_call_if-in-Message.ensures.ok c.args.rules.now)
    ∙ ap (λ (n : RawNews). with_news c.args.rules.now n (known_of c.args.rules.now (Some c.args.self.now))) (sym c.in-Message.is)
