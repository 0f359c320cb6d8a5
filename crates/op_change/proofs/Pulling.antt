-- A pull spares what is shown.
use Rattle.std.proofs.Common.{◌≡◌, ◌⊎◌, ◌≤◌, inl, inr, ℕ, List, [], ◌∷◌, ◌++◌, true, codes, length, take, refl, sym, ◌∙◌, ap, arith, append_assoc}
use Rattle.fp_base.specs.declared.object.ObjKind.{ObjKind}
use Rattle.fp_base.specs.declared.object.ObjKind.TheVariants as kinds
use Rattle.fp_host.specs.Paths.{Elements, IsAbove}
use Rattle.fp_host.specs.View.{View}
use Rattle.fp_host.specs.Outcome.{Spot, gone, folder, shows, Disk, Leaves}
use Rattle.fp_name.specs.Hex.{hex, is_digest}
use Rattle.fp_small.specs.Clear.{IsWithin}
use Rattle.fp_small.specs.Places.{repo, tmp}
use Rattle.fp_small.specs.declared.state.State.{State}
use Rattle.fp_small.proofs.Within.{within_rest}
use Rattle.ost_model.specs.Objects.{Have, object_path, store}
use Rattle.ost_model.specs.Stores.{objects_folder}
use Rattle.ost_store.proofs.Elements.{prefix_is_one}
use Rattle.ost_store.specs.Place.{LeavesStore}
use Rattle.ost_pull.specs.Pulls.{PullsAt, Pulls, HasTrueFiles}
use Rattle.ost_pull.specs.Pulls as pulls
use Rattle.ost_pull.specs.Work.{WorksAt}
use Rattle.ost_pull.proofs.TrueFiles.{stores_true}
use Rattle.dep_states.specs.Frames.{IsNewObject}
use Rattle.dep_states.specs.Sound.{Fixed, Permits, Opens, Spares, InTmp}
use Rattle.dep_states.proofs.Deployed.{top}
use Rattle.dep_states.proofs.Law.{frame_law}
use Rattle.dep_states.proofs.Pulling.{new_spares}
use Rattle.dep_states.proofs.Sparing.{fixed_in_repo}
use Rattle.dep_states.proofs.Switching.{none_in_tmp, permits_gone}
use Rattle.dep_states.proofs.Usual.{tmp_spares, sound_store}
use Rattle.op_change.proofs.PlainBringing.{IsPlain, plain_spared, plain_permitted}
use Rattle.op_change.proofs.Sparing.{a_folder}

-- every stop leaves a store whose names are true
pub true_names : {s : State} {v : View} → Opens s v → LeavesStore repo v
true_names opens = record { each = λ disk left. sound_store disk (opens.sound disk left) }

-- so its files and links are those of their names
pub true_files : {s : State} {v : View} → Opens s v → HasTrueFiles repo v
true_files {v = v} opens = stores_true repo v (true_names opens)

-- files are those of their names where the store is the same
pub true_same : {u v : View} → store repo (shows v) ≡ store repo (shows u) → HasTrueFiles repo u → HasTrueFiles repo v
true_same same files = record { each = λ d object digits there. files.each d object digits (sym (ap (λ (have : Have). have d kinds.File) same) ∙ there) }

-- ---- work

in_work : (n : List ℕ) (p rest : Elements) (spot : Spot) → p ≡ rest ++ (n ∷ tmp) → length p ≤ 128 → InTmp p spot
in_work n p rest spot at short = record { name = n; rest = rest; is = at ∙ sym (append_assoc rest (n ∷ []) tmp); short = short }

-- a folder above an object of the work folder is in it, or one of the three
above_cases : (n : List ℕ) (d : List ℕ) (kind : ObjKind) (q : Elements) (spot : Spot) → IsAbove q (object_path (n ∷ tmp) d kind) → InTmp q spot ⊎ IsPlain q
above_cases n d kind q spot (inl at) = inl (in_work n q (take 2 (hex d) ∷ (codes "objects" ∷ [])) spot at (omega (arith, ap length at)))
above_cases n d kind q spot (inr (inl at)) = inl (in_work n q (codes "objects" ∷ []) spot at (omega (arith, ap length at)))
above_cases n d kind q spot (inr (inr (inl at))) = inl (in_work n q [] spot at (omega (arith, ap length at)))
above_cases n d kind q spot (inr (inr (inr (inl at)))) = inr (inr (inr at))
above_cases n d kind q spot (inr (inr (inr (inr (inl at))))) = inr (inr (inl at))
above_cases n d kind q spot (inr (inr (inr (inr (inr (inl at)))))) = inr (inl at)
above_cases n d kind q spot (inr (inr (inr (inr (inr (inr none)))))) = absurd none

-- all that work gives is anything in `repo/tmp`, or one of the three as a folder, or nothing there
data WorkCase (n : List ℕ) (q : Elements) (spot : Spot) : Type 0 where
  in_tmp : InTmp q spot → WorkCase n q spot
  plain : IsPlain q → spot ≡ folder → WorkCase n q spot
  goes : IsWithin (n ∷ tmp) q → spot ≡ gone → WorkCase n q spot

work_case : (n : List ℕ) (q : Elements) (spot : Spot) → WorksAt (n ∷ tmp) q spot → WorkCase n q spot
work_case n q spot (inl object) = in_tmp (in_work n q (object_path [] object.digest object.kind) spot object.at (omega (arith, ap length object.at)))
work_case n q spot (inr (inl above)) = elim (above_cases n above.0.digest above.0.kind q spot above.0.above) [ inl within ↦ in_tmp within | inr is ↦ plain is above.1 ]
work_case n q spot (inr (inr away)) = goes away.0 away.1

work_avoids : {i : Disk} {v : View} (left : Leaves v i) (n : List ℕ) (q : Elements) (spot : Spot) → WorkCase n q spot → Fixed i q → ⊥
work_avoids {i = i} {v = v} left n q spot (in_tmp within) f = (tmp_spares {v = v}).avoids i left q spot f within
work_avoids {i = i} left n q spot (plain is at) f = plain_spared i q is f
work_avoids left n q spot (goes within at) f =
    let below = within_rest (n ∷ tmp) q within in
    none_in_tmp (below.0 ++ (n ∷ [])) (below.1 ∙ sym (append_assoc below.0 (n ∷ []) tmp)) f

work_permits : {i : Disk} {v : View} (left : Leaves v i) (n : List ℕ) (q : Elements) (spot : Spot) → WorkCase n q spot → Permits i q spot
work_permits {i = i} {v = v} left n q spot (in_tmp within) = (tmp_spares {v = v}).permits i left q spot within
work_permits {i = i} left n q spot (plain is at) = plain_permitted i q spot is at
work_permits left n q spot (goes within at) = permits_gone q spot at

-- ---- folders above objects

above_avoids : (i : Disk) (d : List ℕ) (kind : ObjKind) (q : Elements) → IsAbove q (object_path repo d kind) → Fixed i q → ⊥
above_avoids i d kind q (inl at) f = let o = fixed_in_repo f (ap top at) in cc (sym at ∙ o.is)
above_avoids i d kind q (inr (inl at)) f = let o = fixed_in_repo f (ap top at) in cc (sym at ∙ o.is)
above_avoids i d kind q (inr (inr (inl at))) f = plain_spared i q (inr (inl at)) f
above_avoids i d kind q (inr (inr (inr (inl at)))) f = plain_spared i q (inl at) f
above_avoids i d kind q (inr (inr (inr (inr none)))) f = none

above_permits : (i : Disk) (d : List ℕ) (kind : ObjKind) (q : Elements) (spot : Spot) → is_digest d ≡ true → IsAbove q (object_path repo d kind) → spot ≡ folder → Permits i q spot
above_permits i d kind q spot digits (inl at) is = a_folder i q (take 2 (hex d) ∷ objects_folder repo) spot at refl (record { fits = inr (refl, prefix_is_one d digits); short = inr (omega arith) }) is
above_permits i d kind q spot digits (inr (inl at)) is = a_folder i q (objects_folder repo) spot at refl (record { fits = tt; short = inr (omega arith) }) is
above_permits i d kind q spot digits (inr (inr (inl at))) is = plain_permitted i q spot (inr (inl at)) is
above_permits i d kind q spot digits (inr (inr (inr (inl at)))) is = plain_permitted i q spot (inl at) is
above_permits i d kind q spot digits (inr (inr (inr (inr none)))) is = absurd none

-- ---- all of it

module _ {s : State} {v : View} (n : List ℕ) (opens : Opens s v) where
  as_new : (q : Elements) (spot : Spot) → pulls.IsNewObject repo v q spot → IsNewObject v q spot
  as_new q spot o = record { digest = o.digest; kind = o.kind; is = o.at; digits = o.digits; named = inl o.named; absent_before = o.free }

  avoids : (disk : Disk) → Leaves v disk → (q : Elements) (spot : Spot) → Fixed disk q → PullsAt repo (n ∷ tmp) v q spot → ⊥
  avoids disk left q spot f (inl work) = work_avoids {v = v} left n q spot (work_case n q spot work) f
  avoids disk left q spot f (inr (inl object)) = (new_spares opens).avoids disk left q spot f (as_new q spot object)
  avoids disk left q spot f (inr (inr above)) = above_avoids disk above.0.digest above.0.kind q above.0.above f

  permits : (disk : Disk) → Leaves v disk → (q : Elements) (spot : Spot) → PullsAt repo (n ∷ tmp) v q spot → Permits disk q spot
  permits disk left q spot (inl work) = work_permits {v = v} left n q spot (work_case n q spot work)
  permits disk left q spot (inr (inl object)) = (new_spares opens).permits disk left q spot (as_new q spot object)
  permits disk left q spot (inr (inr above)) = above_permits disk above.0.digest above.0.kind q spot above.0.digits above.0.above above.1

  pull_spares : Spares v (PullsAt repo (n ∷ tmp) v)
  pull_spares = record { avoids = avoids; permits = permits }

  pub pull_opens : {w : View} → Pulls repo (n ∷ tmp) v w → Opens s w
  pull_opens pull = frame_law pull_spares pull.keeps.follows opens
