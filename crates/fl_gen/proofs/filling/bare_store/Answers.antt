use Rattle.std.proofs.Common.{List, [], ◌∷◌, ◌∙◌, ap, subst}
use Rattle.fl_gen.specs.declared.store.Row.{Row}
use Rattle.fl_gen.specs.Stores.{config_entry, file_spot}
use Rattle.fl_gen.specs.Keeping.{Adds}
use Rattle.fl_gen.proofs.Entries.{adds_as}
use Rattle.fl_gen.proofs.Stocking.{stocks_bare}
use Rattle.fl_gen.proofs.filling.bare_store.Goals as goal

pub returns : goal.returns
returns c =
    let adds = adds_as c.in_ok-path.ensures (c.file_of.ensures.spot ∙ ap file_spot (c.in_ok-config.ensures ∙ c.as_bytes.ensures.value)) c.in_ok-put.ensures in
    stocks_bare (subst (λ (l : List Row). Adds (config_entry ∷ []) l c.put.new.self.rows.items) c.new-store.ensures adds)
