-- Objects that stay, and operations that begin.
use Rattle.std.proofs.Common.{◌≡◌, ◌⊎◌, inl, inr, refl, ap}
use Rattle.fp_base.specs.declared.object.ObjKind.{ObjKind}
use Rattle.fp_host.specs.Paths.{Elements, Slot}
use Rattle.fp_host.specs.View.{View, IsTree}
use Rattle.fp_small.specs.Files.{KeepsFiles}
use Rattle.fp_small.specs.Places.{repo}
use Rattle.ost_model.specs.Objects.{object_path, object_at}
use Rattle.dep_switch.proofs.Spots.{same_shown}
use Rattle.fp_small.specs.declared.state.State.{State}
use Rattle.fp_small.proofs.Keeping.{files_stay}
use Rattle.op_change.specs.Deploys.{Does, SameObjects}

-- where no name of an object changes
pub same_objects : (W : Elements → Slot → Type 0) {u w : View} → IsTree u → IsTree w → KeepsFiles u w → ((q : Elements) → (w.names q ≡ u.names q) ⊎ W q (w.names q)) → ((d : _) (kind : ObjKind) (e : Slot) → W (object_path repo d kind) e → ⊥) → SameObjects u w
same_objects W before after files names off d kind digits =
    ap (object_at kind) (same_shown before after files (object_path repo d kind) (elim (names (object_path repo d kind)) [ inl same ↦ same | inr put ↦ absurd (off d kind _ put) ]))

-- where nothing is done yet
pub does_start : {s t : State} {W : View → Elements → Slot → Type 0} {u : View} → Does s t W u u
does_start = record { either = λ opens. record { shown = λ disk left. inl (opens.shown disk left); sound = opens.sound }; names = λ q. inl refl; files = files_stay; printed = refl }
