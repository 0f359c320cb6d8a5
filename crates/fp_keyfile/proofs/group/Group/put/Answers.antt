use Rattle.std.proofs.Common.{List, ap, ◌∙◌}
use Rattle.std.specs.List.{position}
use Rattle.std.specs.Str.{bytes_eq}
use Rattle.std.proofs.lemmas.Result.{on_ok_weaker}
use Rattle.fp_keyfile.specs.declared.group.Pair.{Pair}
use Rattle.fp_keyfile.proofs.FirstPlace.{put_found, put_new}
use Rattle.fp_keyfile.proofs.group.Group.put.Goals as goal

pub returns-in-Some-clause-ok : goal.returns-in-Some-clause-ok
returns-in-Some-clause-ok c =
    let g = c.args.self.now in
    let key = c.args.key.now in
    let found = c.in-Some.ensures ∙ ap (position (λ (p : Pair). bytes_eq p.key key)) c.as_slice.ensures in
    ap (λ (ps : List Pair). record g { pairs = ps }) (put_found g.pairs c.set.new.self key c.args.value.now c.in-Some.at c.in_ok-pair.pair c.in_ok-pair.ensures found c.set.ensures)

pub returns-in-None-clause-ok : goal.returns-in-None-clause-ok
returns-in-None-clause-ok c =
    let g = c.args.self.now in
    let key = c.args.key.now in
    let missed = c.in-None.ensures ∙ ap (position (λ (p : Pair). bytes_eq p.key key)) c.as_slice.ensures in
    on_ok_weaker c.push.result (λ e. ap (λ (ps : List Pair). record g { pairs = ps }) (put_new g.pairs c.push.new.self key c.args.value.now c.in_ok-pair.pair c.in_ok-pair.ensures missed e)) c.push.ensures.ok
