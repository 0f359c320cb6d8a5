-- What an object without a fault is.
use Rattle.std.specs.Option.{option_or}
use Rattle.std.specs.Prelude.{if◌then◌else◌, not}
use Rattle.std.proofs.Common.{None, Bool, true, refl, false, ◌≡◌, Some, List, ℕ, ap, ◌∙◌, Option, sym, length, ◌<◌, ◌*◌}
use Rattle.std.proofs.lemmas.Bool.{lt-leb}
use Rattle.fp_base.specs.declared.object.ObjKind.{ObjKind}
use Rattle.fp_base.specs.declared.object.ObjKind.TheVariants as kinds
use Rattle.fp_base.proofs.Options.{first_none, second_none}
use Rattle.fp_host.specs.Outcome.{holds, points}
use Rattle.fp_host.specs.Paths.{is_link_text}
use Rattle.ost_model.specs.Objects.{Fault, unless, digest_fault, refused_mode, kind_fault, rule_fault, name_fault, length_fault, content_fault, mode_fault, Named, object_fault, Have, too_long, dir_mode_fault, may_be_link, missing}
use Rattle.ost_model.specs.Contents.{is_permission}
use Rattle.ost_model.specs.declared.object.Object.TheVariants as objects
use Rattle.ost_model.specs.declared.object.Object.{Object}
use Rattle.ost_model.specs.Order.{order, first_fault, Place, In}
use Rattle.ost_model.proofs.Places.{faultless, first_same}

pub unless_none : (b : Bool) (f : Fault) → unless b f ≡ None → b ≡ true
unless_none true f none = refl
unless_none false f none = absurd (cc none)

pub file_bits : (d : List ℕ) (kind : ObjKind) (mode : ℕ) (bytes : List ℕ) → name_fault d kind (Some (objects.File mode bytes)) ≡ None → is_permission mode ≡ true
file_bits d kind mode bytes good =
    let o = objects.File mode bytes in
    let of_kind = second_none (kind_fault kind o) (content_fault d kind o) good in
    let after = second_none (length_fault o) (option_or (mode_fault o) (option_or (digest_fault d o) (rule_fault kind o))) of_kind in
    unless_none (is_permission mode) (refused_mode mode) (first_none (mode_fault o) (option_or (digest_fault d o) (rule_fault kind o)) after)

pub named_file : (d : List ℕ) (kind : ObjKind) (id mode : ℕ) (bytes : List ℕ) → name_fault d kind (Some (objects.File mode bytes)) ≡ None → Named d kind (holds id mode bytes)
named_file d kinds.File id mode bytes good = record { bits = file_bits d kinds.File mode bytes good; good = good }
named_file d kinds.Commit id mode bytes good = absurd (cc good)
named_file d kinds.DirTree id mode bytes good = absurd (cc good)
named_file d kinds.DirMeta id mode bytes good = absurd (cc good)

pub named_meta : (d : List ℕ) (kind : ObjKind) (id : ℕ) (bytes : List ℕ) → name_fault d kind (Some (objects.Meta bytes)) ≡ None → Named d kind (holds id 420 bytes)
named_meta d kinds.File id bytes good = absurd (cc good)
named_meta d kinds.Commit id bytes good = record { bits = refl; good = good }
named_meta d kinds.DirTree id bytes good = record { bits = refl; good = good }
named_meta d kinds.DirMeta id bytes good = record { bits = refl; good = good }

pub named_link : (d : List ℕ) (kind : ObjKind) (text : List ℕ) → is_link_text text ≡ true → name_fault d kind (Some (objects.Link text)) ≡ None → Named d kind (points text)
named_link d kinds.File text linked good = record { bits = refl; good = ap (λ b. name_fault d kinds.File (if b then Some (objects.Link text) else None)) linked ∙ good }
named_link d kinds.Commit text linked good = absurd (cc good)
named_link d kinds.DirTree text linked good = absurd (cc good)
named_link d kinds.DirMeta text linked good = absurd (cc good)

there_of : (d : List ℕ) (kind : ObjKind) (object : Option Object) → object_fault d kind object ≡ None → (o : Object) × (object ≡ Some o)
there_of d kind None good = absurd (cc good)
there_of d kind (Some o) good = (o, refl)

pub clean_more : (have other : Have) (commit : List ℕ) → first_fault have commit ≡ None → ((d : List ℕ) (kind : ObjKind) (object : Object) → have d kind ≡ Some object → other d kind ≡ Some object) → first_fault other commit ≡ None
clean_more have other commit clean stored = first_same have other commit agree ∙ clean
  where
    agree : (p : Place) → In (order have commit) p → other p.digest p.kind ≡ have p.digest p.kind
    agree p has =
        let good = (faultless have 0 (order have commit) clean p has).1 in
        let o = there_of p.digest p.kind (have p.digest p.kind) good in
        stored p.digest p.kind o.0 o.1 ∙ sym o.1

pub long_fault : (d : List ℕ) (kind : ObjKind) (bytes : List ℕ) → may_be_link kind ≡ false → 16 * 1024 * 1024 < length bytes → object_fault d kind (Some (objects.Meta bytes)) ≡ Some (too_long (length bytes))
long_fault d kind bytes meta long =
    let o = objects.Meta bytes in
    ap (λ b. option_or (option_or (unless (not b) missing) (content_fault d kind o)) (dir_mode_fault kind (Some o))) meta
    ∙ ap (λ b. option_or (option_or (unless b (too_long (length bytes))) (option_or (digest_fault d o) (rule_fault kind o))) (dir_mode_fault kind (Some o))) (lt-leb (length bytes) (16 * 1024 * 1024) long)
