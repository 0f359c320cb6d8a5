use Rattle.std.proofs.Common.{List, ℕ, Bool, Option, ap, ◌∙◌}
use Rattle.std.proofs.lemmas.Result.{on_ok_weaker}
use Rattle.std.specs.Prelude.{if◌then◌else◌, ◌&&◌, is_some}
use Rattle.indexmap.specs.IndexMap.{get_by_text}
use Rattle.std.specs.Str.{bytes_eq}
use Rattle.bus_policy.specs.Events.{is_unique_like}
use Rattle.bus_policy.specs.Watching.{known_of, with_message_if, with_call_if}
use Rattle.bus_policy.proofs.Happening.{sent}
use Rattle.bus_policy.proofs.noting.note_sender.Goals as goal

pub returns-clause-ok : goal.returns-clause-ok
returns-clause-ok g c = λ bytes.
    let policy = c.args.rules.now in
    let header = c.args.header.now in
    let sender = c.in-Some.sender in
    on_ok_weaker c.learn.result (λ h q.
    let k = known_of policy (get_by_text c.args.peers.now q) in
    h q
    ∙ ap (λ (s : List ℕ). if bytes_eq s q then with_message_if c.is_written_by.result (with_call_if c.serial_to_wait.result k) else k) c.as_str-2.ensures
    ∙ ap (λ (b : Bool). if bytes_eq sender q then with_message_if b (with_call_if c.serial_to_wait.result k) else k) (c.is_written_by.ensures ∙ ap (λ (s : List ℕ). is_unique_like s && is_some header.destination) c.as_str.ensures)
    ∙ ap (λ (o : Option ℕ). if bytes_eq sender q then with_message_if (is_unique_like sender && is_some header.destination) (with_call_if o k) else k) c.serial_to_wait.ensures
    ∙ sent policy sender q header bytes c.args.verdict k c.requires c.in-Some.is) c.learn.ensures.ok
