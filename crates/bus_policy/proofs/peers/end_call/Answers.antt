use Rattle.std.proofs.Common.{◌≡◌, ℕ, Bool, cond, List, Option, Some, None, ap, sym, ◌∙◌, rules}
use Rattle.indexmap.specs.IndexMap.{get_by_text}
use Rattle.std.proofs.lemmas.Map.Text.{hash_map_updates_text}
use Rattle.bus_policy.specs.Watching.{known_of, without_call}
use Rattle.bus_policy.proofs.Telling.{told, same_known, none_settled}
use Rattle.bus_policy.proofs.peers.end_call.Goals as goal

pub returns-in-Some-clause-known : goal.returns-in-Some-clause-known
returns-in-Some-clause-known g c = λ policy q.
    let name = c.args.name.now in
    let before = get_by_text c.args.peers.now in
    let peer = c.remove_call.new.self in
    let there : before name ≡ Some c.in-Some.peer.now = sym c.in-Some.ensures.value in
    let put = hash_map_updates_text name c.args.peers.now (c.get_mut.follows.lender peer) (Some peer) ((c.get_mut.follows.holds peer).3 (search rules)) q in
    ap (known_of policy) put ∙ told policy name q before peer (without_call c.args.serial) (c.remove_call.ensures policy ∙ ap (without_call c.args.serial) (same_known policy _ _ (sym there)))

pub returns-in_default-clause-known : goal.returns-in_default-clause-known
returns-in_default-clause-known g c = λ policy q.
    let before = get_by_text c.args.peers.now in
    let none : before c.args.name.now ≡ None = search rules in
    let same : get_by_text c.get_mut.follows.lender-at-none q ≡ before q = search rules in
    same_known policy _ _ same ∙ none_settled policy c.args.name.now q before c.args.serial none

pub returns-in-Some-clause-others : goal.returns-in-Some-clause-others
returns-in-Some-clause-others g c = λ q apart.
    let name = c.args.name.now in
    let peer = c.remove_call.new.self in
    let put = hash_map_updates_text name c.args.peers.now (c.get_mut.follows.lender peer) (Some peer) ((c.get_mut.follows.holds peer).3 (search rules)) q in
    put ∙ ap (λ (b : Bool). cond b (Some peer) (get_by_text c.args.peers.now q)) apart
