use Rattle.std.proofs.Common.{map, string_bytes}
use Rattle.fl_words.specs.Forms.{command_of}
use Rattle.fl_top.specs.Asked.{AsksFor}
use Rattle.fl_change.specs.Performs.{AreToldFor}
use Rattle.fl_top.proofs.Whole.{undisturbed, whole_run}
use Rattle.fl_top.proofs.undisturbed.run_undisturbed.Goals as goal

pub returns : goal.returns
returns g c = λ input fit told host remote.
    let words = map string_bytes c.args.words.now in
    let left = g.I.Source.left c.args.input.now in
    let holds = g.R.Remotes.holds c.args.remotes.now in
    whole_run words left holds c.run.result (g.H.Host.moments c.args.host.now) (g.H.Host.moments c.run.new.host) (g.met.H.Host.is_tree c.args.host.now) fit
    (undisturbed words c.run.result (g.H.Host.moments c.args.host.now) (AreToldFor (AsksFor (command_of words) left) holds) (g.H.Host.faults c.args.host.now) (g.H.Host.faults c.run.new.host) fit told c.run.ensures.words c.run.ensures.fault_has_cause host (λ four. remote (c.run.ensures.remotes.rose four)) (λ five. input (c.run.ensures.input five).0))
    c.run.ensures.runs
