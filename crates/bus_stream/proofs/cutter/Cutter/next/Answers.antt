use Rattle.bus_stream.proofs.Streams.{not_yet, still_at, all_given, names_broken, err_stays}
use Rattle.bus_stream.proofs.cutter.Cutter.next.Goals as goal

pub returns-clause-not_yet : goal.returns-clause-not_yet
returns-clause-not_yet c = not_yet c.take_message.result _ _ c.take_message.ensures.bytes c.take_message.ensures.exact

pub returns-clause-at : goal.returns-clause-at
returns-clause-at c = λ fed given at. still_at c.take_message.result _ _ fed given c.take_message.ensures.bytes c.take_message.ensures.exact at

pub returns-clause-all : goal.returns-clause-all
returns-clause-all c = λ fed given at. all_given c.take_message.result _ _ fed given c.take_message.ensures.exact at

pub returns-clause-broken : goal.returns-clause-broken
returns-clause-broken c = names_broken c.take_message.result _ _ c.take_message.ensures.bytes c.take_message.ensures.exact

pub returns-clause-err : goal.returns-clause-err
returns-clause-err c = err_stays c.take_message.result _ _ c.take_message.ensures.exact
