use Rattle.std.proofs.Common.{ap, ◌∙◌, true, rules}
use Rattle.std.specs.List.{list_any}
use Rattle.std.specs.Str.{bytes_eq}
use Rattle.std.proofs.lemmas.Map.Text.{btree_set_updates_text}
use Rattle.bus_stream.proofs.RecordingLaws.{known_more}
use Rattle.bus_stream.proofs.recording.Draft.push_owner.Goals as goal

pub returns-clause-knows : goal.returns-clause-knows
returns-clause-knows c q =
    known_more c.args.name.now q c.args.owner.now c.args.self.now.owners.items _ _ (c.requires.knows q)
    (btree_set_updates_text c.args.name.now c.args.self.now.owned c.insert.new.self true (search rules) q)
    ∙ ap (list_any (λ o. bytes_eq q o.0)) (search rules)
