use Rattle.std.proofs.Common.{◌≡◌, ℕ, List, Option, Some, ap, sym, ◌∙◌, cond}
use Rattle.std.specs.Str.{bytes_eq}
use Rattle.indexmap.specs.IndexMap.{get_by_text}
use Rattle.std.specs.String.{string_bytes}
use Rattle.std.proofs.lemmas.Map.Text.{hash_map_updates_text}
use Rattle.bus_policy.specs.Watching.{known_of, unknown, with_news}
use Rattle.bus_policy.proofs.Telling.{told, same_known}
use Rattle.bus_policy.proofs.Keeping.{put_keeps, telling_known}
use Rattle.bus_policy.proofs.peers.add_peer.Goals as goal

pub returns-clause-ok : goal.returns-clause-ok
returns-clause-ok g c = λ q.
    let policy = c.args.rules.now in
    let name = c.args.name.now in
    let before = get_by_text c.args.peers.now in
    let peer = c.in_ok-peer.peer in
    let learned : known_of policy (Some peer) ≡ with_news policy c.args.news (known_of policy (before name)) =
    c.in_ok-peer.ensures ∙ ap (with_news policy c.args.news) (same_known policy _ _ (sym c.requires.fresh)) in
    let put = hash_map_updates_text (string_bytes c.in_ok-name.name) c.args.peers.now c.insert.new.self (Some peer) c.in_ok-insert.ensures.updates q in
    let same : string_bytes c.in_ok-name.name ≡ name = c.in_ok-name.ensures.ok in
    ap (known_of policy) (put ∙ ap (λ (n : List ℕ). cond (bytes_eq n q) (Some peer) (before q)) same) ∙ told policy name q before peer (with_news policy c.args.news) learned

pub returns-clause-kept : goal.returns-clause-kept
returns-clause-kept g c = λ kept.
    let policy = c.args.rules.now in
    let name = c.args.name.now in
    let before = get_by_text c.args.peers.now in
    let peer = c.in_ok-peer.peer in
    let put = hash_map_updates_text (string_bytes c.in_ok-name.name) c.args.peers.now c.insert.new.self (Some peer) c.in_ok-insert.ensures.updates in
    put_keeps policy (string_bytes c.in_ok-name.name) before _ peer
    (λ is. telling_known policy c.args.news (unknown policy) c.requires.tells (sym c.in_ok-peer.ensures ∙ is))
    put kept
