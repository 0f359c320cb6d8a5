-- Files and links of the remote that are kept in the work folder.
use Rattle.std.proofs.Common.{◌≡◌, inl, inr, ℕ, List, true, Option, Some, None, Ok, sym, ◌∙◌, ap, subst}
use Rattle.std.specs.Option.{option_or}
use Rattle.fp_host.specs.Paths.{Elements}
use Rattle.fp_host.specs.View.{View}
use Rattle.fp_host.specs.Moments.{Moments, Always}
use Rattle.fp_host.specs.Remote.{Holdings}
use Rattle.fp_host.specs.Reads.{StatOf}
use Rattle.fp_host.specs.declared.host.Stat.TheVariants as stats
use Rattle.fp_host.proofs.Framed.{IsTold, keeps_to}
use Rattle.fp_host.proofs.Goes.{goes_on}
use Rattle.fp_small.specs.Folders.{ancestors, AreFree}
use Rattle.fp_small.proofs.Making.{stat_absent}
use Rattle.fp_name.specs.Hex.{is_digest}
use Rattle.fp_base.specs.declared.object.ObjKind.{ObjKind}
use Rattle.fp_base.specs.declared.object.ObjKind.TheVariants as kinds
use Rattle.ost_model.specs.declared.object.Object.{Object}
use Rattle.ost_model.specs.Objects.{Fault, object_path, object_fault, name_fault, dir_mode_fault}
use Rattle.ost_model.specs.Order.{In}
use Rattle.ost_model.specs.Remotes.{remote_at}
use Rattle.ost_head.specs.Brings.{Comes, CanBring}
use Rattle.ost_store.specs.ObjectNames.{AreOpen}
use Rattle.ost_store.proofs.ObjectPaths.{below_work, above_object}
use Rattle.ost_pull.specs.Work.{Works, AreKept}
use Rattle.ost_pull.proofs.Kept.{works_on}

-- ---- at each moment

comes_works : (t : Elements) (d : List ℕ) {u w : View} → is_digest d ≡ true → Comes (object_path t d kinds.File) u w → Works t u w
comes_works t d good s = record {
  keeps = keeps_to
      (λ q spot h. elim h [
        | inl here ↦ inl (record { digest = d; kind = kinds.File; digits = good; at = here })
        | inr made ↦ inr (inl (above_object t d kinds.File q good made.0, made.1))
      ])
      (λ q e h. elim h [
        | inl here ↦ inl (record { digest = d; kind = kinds.File; digits = good; at = here })
        | inr made ↦ inr (inl (above_object t d kinds.File q good made.0, made.1))
      ])
      (λ q is. below_work t d kinds.File q is)
      (λ q id within h. elim h [ inl here ↦ here | inr made ↦ absurd (cc made.1) ])
      s.keeps;
  files = s.files;
}

pub works_bring : {a b c : Option Moments} (t p : Elements) (d : List ℕ) → is_digest d ≡ true → p ≡ object_path t d kinds.File → IsTold b → Always (Comes p) b c → Always (Works t) a b → Always (Works t) a c
works_bring t p d good at told inner so_far =
    goes_on told so_far inner (λ u v w tree r q s. works_on r (comes_works t d good (here s))) (λ u v w tree r q s e. works_on r (comes_works t d good (here e)))
  where
    here : {v w : View} → Comes p v w → Comes (object_path t d kinds.File) v w
    here {v = v} {w = w} s = subst (λ (q : Elements). Comes q v w) at s

-- ---- what is kept already

pub good_of_named : (d : List ℕ) (object : Object) → name_fault d kinds.File (Some object) ≡ None → object_fault d kinds.File (Some object) ≡ None
good_of_named d object named = ap (λ (f : Option Fault). option_or f (dir_mode_fault kinds.File (Some object))) named

pub kept_good : {t : Elements} {url : List ℕ} {holds : Option Holdings} {kept : List (List ℕ × ObjKind)} {v : View} (d : List ℕ) (held : Holdings) → holds ≡ Some held → AreKept t url holds kept v → In kept (d, kinds.File)
    → object_fault d kinds.File (remote_at held url d kinds.File) ≡ None
kept_good d held is are has =
    let k = are.each (d, kinds.File) has in
    ap (object_fault d kinds.File) (k.there.is held is) ∙ good_of_named d k.object k.named

pub can_bring : {t p : Elements} {u v : View} (d : List ℕ) → is_digest d ≡ true → p ≡ object_path t d kinds.File → StatOf p (Ok stats.Absent) u v → AreOpen t u → CanBring p v
can_bring {t = t} {p = p} {u = u} d good at stat opened = record {
  free = ap (λ (x : View). x.names p) stat.same ∙ stat_absent stat;
  folders = subst (AreFree (ancestors p)) (sym stat.same) (subst (λ (q : Elements). AreFree (ancestors q) u) (sym at) (record { free = λ q has. opened.free q (above_object t d kinds.File q good has) }));
}
