use Rattle.std.proofs.Common.{List, ap, arith}
use Rattle.std.proofs.lemmas.Result.{on_ok_weaker}
use Rattle.fp_keyfile.specs.declared.group.Pair.{Pair}
use Rattle.fp_keyfile.proofs.FirstPlace.{IsPut-from, IsPut-found, IsPut-fresh, IsPut-indexed}
use Rattle.fp_keyfile.proofs.table.Table.put.Goals as goal

pub returns-then-at-next-clause-group : goal.returns-then-at-next-clause-group
returns-then-at-next-clause-group c =
    let g = c.args.self.now.group in
    let put = IsPut-from c.args.self.now.places c.place_or_next.new.places g.pairs c.args.key.now c.args.value.now c.in_ok-at.at c.len-next.result c.requires c.len-next.ensures c.in_ok-at.ensures.place c.in_ok-at.ensures.after in
    ap (λ (ps : List Pair). record g { pairs = ps }) (IsPut-found put c.in_ok-pair.ensures c.set.ensures (omega arith))

pub returns-then-at-next-clause-indexed : goal.returns-then-at-next-clause-indexed
returns-then-at-next-clause-indexed c =
    let g = c.args.self.now.group in
    let put = IsPut-from c.args.self.now.places c.place_or_next.new.places g.pairs c.args.key.now c.args.value.now c.in_ok-at.at c.len-next.result c.requires c.len-next.ensures c.in_ok-at.ensures.place c.in_ok-at.ensures.after in
    IsPut-indexed put (IsPut-found put c.in_ok-pair.ensures c.set.ensures (omega arith))

pub returns-else-at-next-clause-group : goal.returns-else-at-next-clause-group
returns-else-at-next-clause-group c =
    let g = c.args.self.now.group in
    let put = IsPut-from c.args.self.now.places c.place_or_next.new.places g.pairs c.args.key.now c.args.value.now c.in_ok-at.at c.len-next.result c.requires c.len-next.ensures c.in_ok-at.ensures.place c.in_ok-at.ensures.after in
    on_ok_weaker c.push.result (λ e. ap (λ (ps : List Pair). record g { pairs = ps }) (IsPut-fresh put c.in_ok-pair.ensures e (omega arith))) c.push.ensures.ok

pub returns-else-at-next-clause-indexed : goal.returns-else-at-next-clause-indexed
returns-else-at-next-clause-indexed c =
    let g = c.args.self.now.group in
    let put = IsPut-from c.args.self.now.places c.place_or_next.new.places g.pairs c.args.key.now c.args.value.now c.in_ok-at.at c.len-next.result c.requires c.len-next.ensures c.in_ok-at.ensures.place c.in_ok-at.ensures.after in
    on_ok_weaker c.push.result (λ e. IsPut-indexed put (IsPut-fresh put c.in_ok-pair.ensures e (omega arith))) c.push.ensures.ok
