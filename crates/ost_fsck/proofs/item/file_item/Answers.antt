use Rattle.std.proofs.Common.{◌≤◌, length, subst}
use Rattle.fp_host.proofs.Ending.{ends_to}
use Rattle.fp_small.specs.Load.{Loads}
use Rattle.fp_small.specs.declared.loading.Loaded.{Loaded}
use Rattle.ost_fsck.specs.Batches.{small_most, IsFileItem, IsFileItemAt}
use Rattle.ost_fsck.proofs.Itemed.{ok_where, loaded_at}
use Rattle.ost_fsck.proofs.item.file_item.Goals as goal

pub returns-in-Bytes-clause-tells : goal.returns-in-Bytes-clause-tells
returns-in-Bytes-clause-tells g c =
    let path = c.args.path.now in
    let bytes = c.in-Bytes.bytes in
    ok_where (length bytes ≤ small_most) (IsFileItem c.args.kind c.args.mode bytes) (λ item u w. IsFileItemAt c.args.kind c.args.mode path u item) c.item_of.result c.item_of.ensures.tells c.in_ok-bytes.ensures.tells
    (λ item u w loads made. loaded_at c.args.kind c.args.mode path u bytes item (subst (λ (l : Loaded). Loads path small_most u l) c.in-Bytes.is loads) made)

pub returns-in-Bytes-clause-fault_has_cause : goal.returns-in-Bytes-clause-fault_has_cause
returns-in-Bytes-clause-fault_has_cause g c = record { later = c.load.ensures.fault_has_cause.later; fault = λ is. absurd (c.item_of.ensures.no_fault is) }

pub returns-in-Absent-clause-tells : goal.returns-in-Absent-clause-tells
returns-in-Absent-clause-tells g c = ends_to c.in_ok-bytes.ensures.tells (λ u w loads id bytes spot. tt)
