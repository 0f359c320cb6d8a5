use Rattle.std.proofs.Common.{true, string_bytes}
use Rattle.std.specs.HashSet.{contains_text}
use Rattle.std.proofs.lemmas.Map.Text.{hash_set_updates_text}
use Rattle.ost_prune.proofs.Used.{none_added, next_added, all_added}
use Rattle.ost_prune.proofs.texts.add_texts.Goals as goal

pub loop-object-init : goal.loop-object-init
loop-object-init c = none_added c.args.root.now (contains_text c.args.texts.now)

pub loop-object-preserved : goal.loop-object-preserved
loop-object-preserved c =
    next_added c.args.root.now c.args.objects.now c.loop-object.object-index c.object-item.result (string_bytes c.in_ok-text.text) (contains_text c.args.texts.now) (contains_text c.loop-object.texts) (contains_text c.insert.new.self) c.loop-object-test.true c.object-item.is
    c.loop-object.invariant c.in_ok-text.ensures (λ q. hash_set_updates_text (string_bytes c.in_ok-text.text) c.loop-object.texts c.insert.new.self true c.in_ok-insert.ensures.updates q)
