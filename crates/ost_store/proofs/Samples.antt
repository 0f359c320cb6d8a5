-- Stores and staged objects that there are.
use Rattle.std.proofs.Common.{◌≡◌, ℕ, List, ◌∷◌, ◌++◌, true, None, refl, ◌∙◌, ap}
use Rattle.fp_host.specs.Paths.{Elements, absent}
use Rattle.fp_host.specs.View.{View, IsTree}
use Rattle.fp_host.specs.Calls.{creates, appends, syncs, done, CanCreate}
use Rattle.fp_host.specs.Outcome.{IsSettled, spot_of}
use Rattle.fp_host.proofs.Settled.{settled_disk}
use Rattle.fp_name.specs.Hex.{is_digest}
use Rattle.fp_base.specs.declared.object.ObjKind.{ObjKind}
use Rattle.fp_base.specs.declared.object.ObjKind.TheVariants as kinds
use Rattle.ost_model.specs.declared.object.Object.TheVariants as objects
use Rattle.ost_model.specs.Stores.{objects_folder}
use Rattle.ost_model.proofs.Stores.{nothing_is_a_store, objects_are_named}
use Rattle.ost_model.proofs.Sample.{meta, meta_bytes, meta_named}
use Rattle.fp_small.proofs.Bare.{file_written}
use Rattle.ost_store.specs.Place.{IsReadyAs, LeavesObject, LeavesStore}
use Rattle.ost_store.proofs.Ready.{staged_ready}

-- where nothing stands below `objects` and all is settled
pub empty_store : (root : Elements) (v : View) → IsTree v → IsSettled v → ((rest : Elements) (xx : List ℕ) → v.names (rest ++ (xx ∷ objects_folder root)) ≡ absent) → LeavesStore root v
empty_store root v tree settled none = record {
  each = λ disk left. nothing_is_a_store root disk (λ rest xx. settled_disk v tree settled disk left (rest ++ (xx ∷ objects_folder root)) ∙ ap (spot_of v.files) (none rest xx));
}

pub store_leaves_object : (root : Elements) (d : List ℕ) (kind : ObjKind) (v : View) → is_digest d ≡ true → LeavesStore root v → LeavesObject root d kind v
store_leaves_object root d kind v good leaves = record { each = λ disk left. objects_are_named root disk (leaves.each disk left) d kind good }

-- the dirmeta of the sample, created, written and synced
pub meta_ready : (t : Elements) (id : ℕ) (v : View) → CanCreate t 420 v → v.files id ≡ None → IsTree (done syncs (done (appends t meta_bytes) (done (creates t 420 id) v)))
    → IsReadyAs meta kinds.DirMeta t (done syncs (done (appends t meta_bytes) (done (creates t 420 id) v)))
meta_ready t id v can free tree =
    let file = file_written v t meta_bytes id can free in
    staged_ready t (objects.Meta meta_bytes) meta kinds.DirMeta (done (appends t meta_bytes) (done (creates t 420 id) v)) (done syncs (done (appends t meta_bytes) (done (creates t 420 id) v)))
    (record { id = file.id; name = file.name; row = file.row }) refl tree meta_named
