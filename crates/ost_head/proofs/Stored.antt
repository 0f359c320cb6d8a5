-- Objects of the store.
use Rattle.std.proofs.Common.{◌≡◌, ℕ, List, true, Option, Some, Result, Err, IsErrOf, refl, sym, ◌∙◌, ap, subst}
use Rattle.fp_host.specs.Paths.{Elements, is_link_text}
use Rattle.fp_host.specs.Outcome.{shows}
use Rattle.fp_host.specs.View.{View}
use Rattle.fp_host.specs.Moments.{Moments}
use Rattle.fp_host.specs.Frame.{AtEnd}
use Rattle.fp_host.specs.Causes.{IsCaused}
use Rattle.fp_host.specs.declared.host.HostEnd.{HostEnd}
use Rattle.fp_host.specs.declared.host.HostEnd.TheVariants as host_ends
use Rattle.fp_base.specs.declared.object.ObjKind.TheVariants as kinds
use Rattle.ost_model.specs.declared.object.Object.{Object}
use Rattle.ost_model.specs.declared.object.Object.TheVariants as objects
use Rattle.ost_model.specs.Objects.{object_path, store}
use Rattle.ost_model.proofs.Spots.{link_good}
use Rattle.ost_store.specs.Reads.{Gets}
use Rattle.ost_store.specs.declared.reading.Got.{Got}
use Rattle.ost_store.specs.declared.reading.Got.TheVariants as got
use Rattle.ost_walk.specs.declared.ends.WalkEnd.{WalkEnd}
use Rattle.ost_walk.specs.declared.ends.WalkEnd.TheVariants as walks
use Rattle.ost_walk.specs.Ends.{of_host}
use Rattle.ost_head.specs.Objects.{ReadsIfThere}
use Rattle.ost_head.proofs.Told.{link_told, told_of}

-- ---- a file or link that is told

pub stored_link : (root : Elements) (d : List ℕ) (most : ℕ) (told : Got) {a b : Option Moments} (m : Moments) → a ≡ Some m → AtEnd (λ u w. Gets root d kinds.File most u told) a b → (text : List ℕ) (r : Result (Option Object) WalkEnd) → told ≡ got.Link text
    → (is_link_text text ≡ true → ReadsIfThere d kinds.File (Some (objects.Link text)) r) → ReadsIfThere d kinds.File (store root (shows m.now) d kinds.File) r
stored_link root d most told m at ends text r is reads =
    let same : store root (shows m.now) d kinds.File ≡ Some (objects.Link text) = link_told text most (store root (shows m.now) d kinds.File) (sym is ∙ told_of root d most told m at ends) in
    subst (λ (o : Option Object). ReadsIfThere d kinds.File o r) (sym same) (reads (link_good text (shows m.now (object_path root d kinds.File)) same))

-- ---- causes of faults

host_fault : (end : HostEnd) (r : WalkEnd) → r ≡ of_host end → r ≡ walks.HostFault → end ≡ host_ends.Fault
host_fault host_ends.Fault r is fault = refl
host_fault host_ends.NoMemory r is fault = absurd (cc (is, fault))

pub piece_caused : (T U : Type 0) (C : View → Type 0) {a : Option Moments} {f g : ℕ} (end : HostEnd) (r : WalkEnd) → r ≡ of_host end → IsCaused (IsErrOf {T = T} (Err end) host_ends.Fault) a C f g → IsCaused (IsErrOf {T = U} (Err r) walks.HostFault) a C f g
piece_caused T U C end r ended cause = record {
  later = cause.later;
  fault = λ e m at has. cause.fault (ap (λ (x : HostEnd). Err x) (host_fault end r ended (same e))) m at has;
}
  where
    same : ◌≡◌ {A = Result U WalkEnd} (Err r) (Err walks.HostFault) → r ≡ walks.HostFault
    same e = cc e
