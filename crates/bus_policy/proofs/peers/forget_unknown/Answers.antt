use Rattle.std.proofs.Common.{◌≡◌, ◌∙◌, List, ℕ, Option, None, sym, ap, rules, false}
use Rattle.std.specs.Option.{option_copied}
use Rattle.indexmap.specs.IndexMap.{get_by_text}
use Rattle.std.proofs.lemmas.Map.Text.{hash_map_updates_text}
use Rattle.bus_policy.specs.Watching.{known_of, unknown}
use Rattle.bus_policy.proofs.Telling.{same_known}
use Rattle.bus_policy.proofs.Keeping.{forgotten, forgotten_keeps, known_keeps}
use Rattle.bus_policy.proofs.peers.forget_unknown.Goals as goal

pub returns-then-not-is_known-clause-known : goal.returns-then-not-is_known-clause-known
returns-then-not-is_known-clause-known g c =
    let policy = c.args.rules.now in
    let name = c.args.name.now in
    let gone = hash_map_updates_text name c.args.peers.now c.swap_remove.new.self None c.swap_remove.ensures.updates in
    forgotten policy name (get_by_text c.args.peers.now) _ gone (same_known policy _ _ (sym c.get.ensures.value) ∙ c.is_known.ensures.blank c.if-not-is_known.true)

pub returns-then-not-is_known-clause-kept : goal.returns-then-not-is_known-clause-kept
returns-then-not-is_known-clause-kept g c =
    let policy = c.args.rules.now in
    let name = c.args.name.now in
    let gone = hash_map_updates_text name c.args.peers.now c.swap_remove.new.self None c.swap_remove.ensures.updates in
    forgotten_keeps policy name (get_by_text c.args.peers.now) _ gone
