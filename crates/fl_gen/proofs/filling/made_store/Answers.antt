use Rattle.fl_gen.proofs.Stocking.{store_made}
use Rattle.fl_gen.proofs.filling.made_store.Goals as goal

pub returns : goal.returns
returns g c = store_made c.args.version c.args.apps c.in_ok-store.store.rows.items c.offer_runtimes.new.store.rows.items c.offer_apps.new.store.rows.items c.in_ok-store.ensures c.in_ok-offer_runtimes.ensures c.in_ok-offer_apps.ensures
