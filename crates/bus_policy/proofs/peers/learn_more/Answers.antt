use Rattle.std.proofs.Common.{◌≡◌, ℕ, List, Option, Some, ap, sym, ◌∙◌, rules}
use Rattle.indexmap.specs.IndexMap.{get_by_text}
use Rattle.std.proofs.lemmas.Map.Text.{hash_map_updates_text}
use Rattle.std.proofs.lemmas.Result.{on_ok_weaker}
use Rattle.bus_policy.specs.Watching.{known_of, with_news}
use Rattle.bus_policy.proofs.Telling.{told, kept, same_known, err_then}
use Rattle.bus_policy.proofs.Keeping.{put_keeps, there_known, learned_known}
use Rattle.bus_policy.proofs.peers.learn_more.Goals as goal

pub returns-in-Some-clause-ok : goal.returns-in-Some-clause-ok
returns-in-Some-clause-ok g c =
    let policy = c.args.rules.now in
    let name = c.args.name.now in
    let before = get_by_text c.args.peers.now in
    let peer = c.learn.new.self in
    let there : before name ≡ Some c.in-Some.peer.now = sym c.in-Some.ensures.value in
    let put = hash_map_updates_text name c.args.peers.now (c.get_mut.follows.lender peer) (Some peer) ((c.get_mut.follows.holds peer).3 (search rules)) in
    on_ok_weaker c.learn.result (λ e q. ap (known_of policy) (put q) ∙ told policy name q before peer (with_news policy c.args.news) (e ∙ ap (with_news policy c.args.news) (same_known policy _ _ (sym there)))) c.learn.ensures.ok

pub returns-in-Some-clause-err : goal.returns-in-Some-clause-err
returns-in-Some-clause-err g c =
    let policy = c.args.rules.now in
    let name = c.args.name.now in
    let before = get_by_text c.args.peers.now in
    let peer = c.learn.new.self in
    let there : before name ≡ Some c.in-Some.peer.now = sym c.in-Some.ensures.value in
    let put = hash_map_updates_text name c.args.peers.now (c.get_mut.follows.lender peer) (Some peer) ((c.get_mut.follows.holds peer).3 (search rules)) in
    err_then c.learn.result (λ e q. ap (known_of policy) (put q) ∙ kept policy name q before peer (e ∙ same_known policy _ _ (sym there))) c.learn.ensures.err

pub returns-in-Some-clause-kept : goal.returns-in-Some-clause-kept
returns-in-Some-clause-kept g c = λ kept.
    let policy = c.args.rules.now in
    let name = c.args.name.now in
    let before = get_by_text c.args.peers.now in
    let peer = c.learn.new.self in
    let there : before name ≡ Some c.in-Some.peer.now = sym c.in-Some.ensures.value in
    let put = hash_map_updates_text name c.args.peers.now (c.get_mut.follows.lender peer) (Some peer) ((c.get_mut.follows.holds peer).3 (search rules)) in
    put_keeps policy name before _ peer
    (learned_known c.learn.result policy c.args.news c.in-Some.peer.now peer c.requires.tells c.learn.ensures.ok c.learn.ensures.err (there_known policy name before c.in-Some.peer.now there kept))
    put kept
