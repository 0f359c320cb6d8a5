use Rattle.std.proofs.Common.{◌∙◌, ap, sym}
use Rattle.fp_small.proofs.ConfigReads.{remote_of-some, remotes_kept, remotes_more}
use Rattle.fp_small.proofs.config_reading.remote_rows.Goals.{in-Some+in_ok-row+in_ok-insert_by_name, in_default}
use Rattle.fp_small.proofs.config_reading.remote_rows.Goals as goal

pub row_of-requires-clause-name : goal.row_of-requires-clause-name
row_of-requires-clause-name c = (remote_of-some c.group-item.result _ (sym c.in-Some.ensures)).good

pub row_of-requires-clause-url : goal.row_of-requires-clause-url
row_of-requires-clause-url c = (remote_of-some c.group-item.result _ (sym c.in-Some.ensures)).good_url

pub loop-group-preserved : goal.loop-group-preserved
loop-group-preserved c =
    elim c.match-said_by.branch [
      | in-Some+in_ok-row+in_ok-insert_by_name w ↦ ap (λ v. v.items) w.rows-is ∙ remotes_more c.args.groups.now c.loop-group.group-index c.group-item.result (record { name = w.in-Some.said.name.now; url = w.in-Some.said.url.now }) w.in_ok-row.row c.loop-group.rows.items w.insert_by_name.new.items.items c.loop-group-test.true c.group-item.is w.in-Some.ensures c.loop-group.invariant w.in_ok-row.ensures.ok w.in_ok-insert_by_name.ensures.ok
      | in_default w ↦ ap (λ v. v.items) w.rows-is ∙ remotes_kept c.args.groups.now c.loop-group.group-index c.group-item.result c.loop-group.rows.items c.loop-group-test.true c.group-item.is w.in_default.ensures c.loop-group.invariant
    ]
