-- The state of its parts, or the first path of them that doesn't read.
use Rattle.std.proofs.Common.{◌≡◌, ◌⊎◌, inl, inr, List, Bool, true, false, Option, Some, None, Result, Ok, Err, IsErr, IsErrAnd, IsErrOf, refl, sym, ◌∙◌, subst}
use Rattle.std.specs.Prelude.{if◌then◌else◌}
use Rattle.fp_host.specs.Paths.{Elements, path_text, elements_of}
use Rattle.fp_host.specs.View.{View}
use Rattle.fp_host.specs.Outcome.{Disk, shows}
use Rattle.fp_host.specs.declared.host.HostEnd.{HostEnd}
use Rattle.fp_host.specs.declared.host.HostEnd.TheVariants as host
use Rattle.fp_small.specs.declared.state.State.{State}
use Rattle.fp_small.specs.declared.state.RefRow.{RefRow}
use Rattle.fp_small.specs.declared.state.OverrideRow.{OverrideRow}
use Rattle.dep_states.specs.declared.setup.Setup.{Setup}
use Rattle.dep_states.specs.After.{IsGood}
use Rattle.dep_states.specs.Shown.{bad, Shows}
use Rattle.dep_states.specs.Damaged.{Damages, bad_config, bad_remotes, bad_pins, bad_ref, bad_override, IsFirstDamaged}
use Rattle.dep_states.specs.Sound.{is_remotes, is_pins}
use Rattle.dep_states.proofs.Single.{ref_if_bad}
use Rattle.dep_open.specs.declared.part.Part.{Part}
use Rattle.dep_open.specs.declared.open_end.OpenEnd.{OpenEnd}
use Rattle.dep_open.specs.declared.open_end.OpenEnd.TheVariants.{Damaged, Fault, NoMemory}
use Rattle.dep_open.specs.Ends.{open_end}
use Rattle.dep_open.specs.Open.{Reads, first_damaged, IsJoined}
use Rattle.dep_open.specs.Parts.{lesser, IsLeast, BadSetting, BadRef, BadOverride, IsGoodSetup, SetsUp, AreRefs, AreOverrides, AreGoodRows, AreGoodLayers}
use Rattle.dep_open.proofs.Least.{least_both, active_back, override_back}
use Rattle.dep_open.proofs.SetUp.{small_back}
use Rattle.dep_open.proofs.FindingOverrides.{good_if}

module _ (disk : Disk) where
  abbrev AnyBad : Elements → Type 0
  AnyBad q = (BadSetting disk q ⊎ BadRef disk q) ⊎ BadOverride disk q

  setting_back : (q : Elements) → BadSetting disk q → elements_of (path_text q) ≡ q
  setting_back q h = small_back q h.1

  ref_back : (q : Elements) → BadRef disk q → elements_of (path_text q) ≡ q
  ref_back q h = subst (λ x. elements_of (path_text x) ≡ x) (sym h.2) (active_back h.0 (ref_if_bad disk h.0 h.1))

  layer_back : (q : Elements) → BadOverride disk q → elements_of (path_text q) ≡ q
  layer_back q h = subst (λ x. elements_of (path_text x) ≡ x) (sym h.2) (override_back h.0 (good_if disk h.0 bad h.1 (λ e. cc e)))

  least_all : (a b c : Option Elements) → IsLeast (BadSetting disk) a → IsLeast (BadRef disk) b → IsLeast (BadOverride disk) c → IsLeast AnyBad (first_damaged a b c)
  least_all a b c x y z =
      least_both (λ q. BadSetting disk q ⊎ BadRef disk q) (BadOverride disk) (λ q h. elim h [ inl s ↦ setting_back q s | inr r ↦ ref_back q r ]) layer_back (lesser a b) c
      (least_both (BadSetting disk) (BadRef disk) setting_back ref_back a b x y) z

  damages_any : (q : Elements) → Damages disk q → AnyBad q
  damages_any q (bad_config here e at) = inl (inl (bad_config here e at, inl at))
  damages_any q (bad_remotes none e at) = inl (inl (bad_remotes none e at, inr (is_remotes at)))
  damages_any q (bad_pins none e at) = inl (inl (bad_pins none e at, inr (is_pins at)))
  damages_any q (bad_ref name e at) = inl (inr (name, e, at))
  damages_any q (bad_override name e at) = inr (name, e, at)

  any_damages : (q : Elements) → AnyBad q → Damages disk q
  any_damages q (inl (inl h)) = h.0
  any_damages q (inl (inr h)) = bad_ref h.0 h.1 h.2
  any_damages q (inr h) = bad_override h.0 h.1 h.2

  first_is : (p : Elements) → IsLeast AnyBad (Some p) → IsFirstDamaged disk p
  first_is p least = record { damages = any_damages p least.0; first = λ q h. least.1 q (damages_any q h) }

lesser_none : (a b : Option Elements) → lesser a b ≡ None → (a ≡ None) × (b ≡ None)
lesser_none None b e = (refl, e)
lesser_none (Some p) None e = absurd (cc e)
lesser_none (Some p) (Some q) e = absurd (both _ e)
  where
    both : (b : Bool) → (if b then Some q else Some p) ≡ None → ⊥
    both true h = cc h
    both false h = cc h

pub joined_reads : (v : View) (a : Part Setup) (b : Part (List RefRow)) (c : Part (List OverrideRow)) (r : Result State OpenEnd)
    → SetsUp (shows v) a → AreRefs (shows v) b → AreOverrides (shows v) c → AreGoodRows b.found → AreGoodLayers c.found → IsJoined a b c r → Reads v r
joined_reads v a b c (Ok s) x y z rows layers is =
    let none = lesser_none (lesser a.damaged b.damaged) c.damaged is.0 in
    let both = lesser_none a.damaged b.damaged none.0 in
    subst (Shows (shows v)) (sym is.1) (record {
      settings = x.is both.0;
      refs = y.refs both.1;
      refs_ascend = rows.ascend;
      overrides = z.overrides none.1;
      overrides_ascend = layers.ascend;
    })
joined_reads v a b c (Err (Damaged p)) x y z rows layers is =
    first_is (shows v) p (subst (IsLeast (AnyBad (shows v))) is (least_all (shows v) a.damaged b.damaged c.damaged x.least y.least z.least))
joined_reads v a b c (Err Fault) x y z rows layers is = tt
joined_reads v a b c (Err NoMemory) x y z rows layers is = tt

pub joined_good : (a : Part Setup) (b : Part (List RefRow)) (c : Part (List OverrideRow)) (r : Result State OpenEnd) (s : State) → IsGoodSetup a → AreGoodRows b.found → AreGoodLayers c.found → IsJoined a b c r → r ≡ Ok s → IsGood s
joined_good a b c (Ok t) s settings rows layers is same =
    let one : t ≡ s = cc same in
    subst IsGood (sym is.1 ∙ one) (record { settings = settings; rows = rows.each; refs_ascend = rows.ascend; layers = layers.each; overrides_ascend = layers.ascend })
joined_good a b c (Err end) s settings rows layers is same = absurd (cc same)

pub joined_fault : (a : Part Setup) (b : Part (List RefRow)) (c : Part (List OverrideRow)) (r : Result State OpenEnd) → IsJoined a b c r → IsErrOf r Fault → ⊥
joined_fault a b c (Ok t) is end = absurd (cc end)
joined_fault a b c (Err (Damaged p)) is end = cc end
joined_fault a b c (Err Fault) is end = is
joined_fault a b c (Err NoMemory) is end = cc end

-- a host's end tells nothing of what is read
pub ended : (v : View) (r : Result State OpenEnd) (e : HostEnd) → IsErr r → IsErrAnd r (λ end. end ≡ open_end e) → Reads v r
ended v (Ok s) e err is = absurd (cc err)
ended v (Err (Damaged p)) host.Fault err is = cc is
ended v (Err (Damaged p)) host.NoMemory err is = cc is
ended v (Err Fault) e err is = tt
ended v (Err NoMemory) e err is = tt

pub open_fault : {U : Type 0} (r : Result State OpenEnd) (s : Result U HostEnd) (e : HostEnd) → s ≡ Err e → IsErrAnd r (λ end. end ≡ open_end e) → IsErrOf r Fault → IsErrOf s host.Fault
open_fault (Ok x) s e is err end = absurd (cc end)
open_fault (Err (Damaged p)) s e is err end = absurd (cc end)
open_fault (Err Fault) s host.Fault is err end = is
open_fault (Err Fault) s host.NoMemory is err end = absurd (cc err)
open_fault (Err NoMemory) s e is err end = absurd (cc end)
