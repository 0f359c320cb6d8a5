-- A stop chooses for each name and each new file by itself.
use Rattle.std.proofs.Common.{◌≡◌, ◌==◌, inl, inr, ℕ, true, Option, Some, refl, sym, subst}
use Rattle.std.proofs.lemmas.Bool.{cases_Bool, cond-false}
use Rattle.std.proofs.lemmas.Bool.Decides.{Decides-eqb}
use Rattle.fp_host.specs.Paths.{Elements, Slot, set_at}
use Rattle.fp_host.specs.View.{View, Inode, IsTree, MayBe}
use Rattle.fp_host.specs.Calls.{set_file, syncs, done}
use Rattle.fp_host.specs.Outcome.{Disk, Leaves, MayHold, IsSameMode, spot_of}
use Rattle.fp_host.proofs.Separate.{path_cases, set_same, set_other, file_same}
use Rattle.fp_host.proofs.Settled.{settled_disk}
use Rattle.fp_memhost.specs.Stops.{with_entry, with_row}

pub entry_left : (v : View) (p : Elements) (e : Slot) → MayBe v p e → Leaves v (with_entry v p e)
entry_left v p e may = record {
  names = set_at v.names p e;
  files = v.files;
  may_be = λ q. elim (path_cases q p) [
    | inl same ↦ subst (λ (x : Slot). MayBe v q x) (sym (set_same v.names p e q same)) (subst (λ (x : Elements). MayBe v x e) (sym same) may)
    | inr other ↦ inl (set_other v.names p e q other)
  ];
  rows = λ id. inl refl;
  seen = λ q. refl;
}

pub row_left : (v : View) (id : ℕ) (f g : Inode) → v.dirty id ≡ true → v.files id ≡ Some f → f.mode ≡ g.mode → Leaves v (with_row v id g)
row_left v id f g dirty is same = record {
  names = v.names;
  files = set_file v.files id (Some g);
  may_be = λ q. inl refl;
  rows = λ i. elim (cases_Bool (i == id)) [
    | inl here ↦
        let at = (Decides-eqb i id).0 here in
        let row : MayHold v id (Some g) = inr (dirty, subst (λ (r : Option Inode). IsSameMode r (Some g)) (sym is) same) in
        subst (λ (r : Option Inode). MayHold v i r) (sym (file_same v.files id (Some g) i at)) (subst (λ (n : ℕ). MayHold v n (Some g)) (sym at) row)
    | inr other ↦ inl (cond-false (i == id) (Some g) (v.files i) other)
  ];
  seen = λ q. refl;
}

pub sync_left : (v : View) (disk : Disk) → IsTree (done syncs v) → Leaves (done syncs v) disk → (q : Elements) → disk q ≡ spot_of v.files (v.names q)
sync_left v disk tree left q = settled_disk (done syncs v) tree (record { earlier = λ p. refl; dirty = λ id. refl }) disk left q
