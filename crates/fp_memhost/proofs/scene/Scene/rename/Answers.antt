use Rattle.std.proofs.Common.{◌≡◌, ◌++◌, ◌∷◌, [], map, rules}
use Rattle.fp_host.specs.Paths.{absent}
use Rattle.fp_memhost.specs.Names.{slot_of, names_of}
use Rattle.fp_memhost.specs.Stood.{stood_of}
use Rattle.fp_memhost.proofs.Viewing.{names_on, remembers_two, move_view}
use Rattle.fp_memhost.proofs.scene.Scene.rename.Goals as goal

pub returns-clause-ok : goal.returns-clause-ok
returns-clause-ok c =
    let moved = slot_of c.in_ok-moved.moved in
    let to_is : stood_of c.in_ok-at_to.at_to ≡ (c.args.to.now, moved) = search rules in
    let from_is : stood_of c.in_ok-at_from.at_from ≡ (c.args.from.now, absent) = search rules in
    let held : moved ≡ names_of c.args.self.now.names.items c.args.from.now = search rules in
    let first : c.push.new.self.items ≡ c.args.self.now.stood.items ++ c.in_ok-at_to.at_to ∷ [] = search rules in
    let second : c.push-2.new.self.items ≡ c.push.new.self.items ++ c.in_ok-at_from.at_from ∷ [] = search rules in
    let told = remembers_two c.args.self.now.stood.items c.push.new.self.items c.push-2.new.self.items c.in_ok-at_to.at_to c.in_ok-at_from.at_from (c.args.to.now, moved) (c.args.from.now, absent) first second to_is from_is in
    move_view c.args.self.now.files.items c.args.self.now.printed.items (map stood_of c.args.self.now.stood.items) (map stood_of c.push-2.new.self.items) (names_of c.args.self.now.names.items c.args.from.now)
    (names_on c.in_ok-ready.ensures.same c.in_ok-ready-2.ensures.same) c.put.ensures.puts c.put-2.ensures.puts held told
