-- Files that stay as they are.
use Rattle.std.proofs.Common.{◌≡◌, inl, inr, ℕ, List, Result, sym, ◌∙◌, ap, subst, Contains}
use Rattle.fp_host.specs.Paths.{Elements, Slot, file}
use Rattle.fp_host.specs.View.{View}
use Rattle.fp_host.specs.Calls.{renames, syncs, Step}
use Rattle.fp_host.specs.declared.host.HostError.{HostError}
use Rattle.fp_host.proofs.Follow.{called}
use Rattle.fp_host.proofs.Keep.{stood_kept}
use Rattle.fp_host.specs.Outcome.{Spot}
use Rattle.fp_host.specs.Frame.{Keeps, NoPath}
use Rattle.fp_small.specs.Files.{KeepsFiles, SameFiles, MakesOneAtMost, MakesFile}
use Rattle.fp_small.specs.Unsynced.{MakesNoFile, MakesOneFile}
use Rattle.fp_small.proofs.Unsynced.{none_one, none_same}

pub files_stay : {v : View} → KeepsFiles v v
files_stay = record { rows = λ id f some. some; stood = λ x had. had }

pub files_same : {v w : View} → w ≡ v → KeepsFiles v w
files_same {v = v} same = subst (KeepsFiles v) (sym same) files_stay

pub files_on : {u v w : View} → KeepsFiles u v → KeepsFiles v w → KeepsFiles u w
files_on first second = record { rows = λ id f some. second.rows id f (first.rows id f some); stood = λ x had. second.stood x (first.stood x had) }

-- a frame that gives bytes to no file that was there
pub files_framed : {G : Elements → Spot → Type 0} {W : Elements → Slot → Type 0} {A : Elements → Type 0} {v w : View} → ((q : Elements) (id : ℕ) → A q → v.names q ≡ file id → ⊥) → Keeps G W A v w → KeepsFiles v w
files_framed none keeps = record { rows = λ id f some. keeps.files id f some (λ q at is. none q id at is); stood = keeps.stood }

pub files_kept : {G : Elements → Spot → Type 0} {W : Elements → Slot → Type 0} {v w : View} → Keeps G W NoPath v w → KeepsFiles v w
files_kept keeps = files_framed (λ q id none is. none) keeps

-- ---- the files that are made

pub same_files : {v w : View} → w ≡ v → SameFiles v w
same_files same = record { rows = λ id. ap (λ (x : View). x.files id) same; stood = λ x had. subst (λ (y : View). Contains y.stood x) (sym same) had }

pub same_files_on : {u v w : View} → SameFiles u v → SameFiles v w → SameFiles u w
same_files_on first second = record { rows = λ id. second.rows id ∙ first.rows id; stood = λ x had. second.stood x (first.stood x had) }

pub files_renamed : {from to : Elements} {r : Result (Unit {0}) HostError} {v w : View} → Step (renames from to) r v w → SameFiles v w
files_renamed step = elim (called step).went [
  | inl same ↦ same_files same
  | inr did ↦ elim did.1 [ inl is ↦ record { rows = λ id. ap (λ (x : View). x.files id) is; stood = stood_kept (called step) } | inr is ↦ record { rows = λ id. ap (λ (x : View). x.files id) is; stood = stood_kept (called step) } ]
]

pub files_synced : {r : Result (Unit {0}) HostError} {v w : View} → Step syncs r v w → SameFiles v w
files_synced step = elim (called step).went [
  | inl same ↦ same_files same
  | inr did ↦ elim did.1 [ inl is ↦ record { rows = λ id. ap (λ (x : View). x.files id) is; stood = stood_kept (called step) } | inr is ↦ record { rows = λ id. ap (λ (x : View). x.files id) is; stood = stood_kept (called step) } ]
]

pub one_same : {v w : View} → w ≡ v → MakesOneAtMost v w
one_same same = record { one = (none_one (none_same same)).one }

pub one_unsynced : {v w : View} → MakesOneFile v w → MakesOneAtMost v w
one_unsynced made = record { one = made.one }

pub one_none : {u v w : View} → MakesNoFile u v → MakesOneAtMost v w → MakesOneAtMost u w
one_none none made = record { one = λ i j f g ni si nj sj. made.one i j f g (none.none i ni) si (none.none j nj) sj }

pub one_then_same : {u v w : View} → MakesOneAtMost u v → SameFiles v w → MakesOneAtMost u w
one_then_same made same = record { one = λ i j f g ni si nj sj. made.one i j f g ni (sym (same.rows i) ∙ si) nj (sym (same.rows j) ∙ sj) }

pub one_of_none : {v w : View} → MakesNoFile v w → MakesOneAtMost v w
one_of_none none = one_unsynced (none_one none)

pub one_of_made : {p : Elements} {bytes : List ℕ} {v w : View} → MakesFile p bytes v w → MakesOneAtMost v w
one_of_made made = record { one = λ i j f g ni si nj sj. made.only i f ni si ∙ sym (made.only j g nj sj) }

pub made_after_none : {p : Elements} {bytes : List ℕ} {u v w : View} → MakesNoFile u v → MakesFile p bytes v w → MakesFile p bytes u w
made_after_none none made = record {
  id = made.id;
  free = none.unsynced.rows made.id made.free;
  name = made.name;
  stood = made.stood;
  row = made.row;
  only = λ j f n s. made.only j f (none.none j n) s;
}

-- the file that was made is elsewhere now
pub made_moved : {p q : Elements} {bytes : List ℕ} {u v w : View} → MakesFile p bytes u v → w.names q ≡ v.names p → Contains w.stood (q, v.names p) → SameFiles v w → MakesFile q bytes u w
made_moved {q = q} {w = w} made moved put same = record {
  id = made.id;
  free = made.free;
  name = moved ∙ made.name;
  stood = subst (λ (e : Slot). Contains w.stood (q, e)) made.name put;
  row = same.rows made.id ∙ made.row;
  only = λ j f n s. made.only j f n (sym (same.rows j) ∙ s);
}
