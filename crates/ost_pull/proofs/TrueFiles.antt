-- Where the names of a store are true, so are its files and links.
use Rattle.std.proofs.Common.{◌≡◌, inl, inr, ℕ, List, true, Some, None, sym, ◌∙◌, ap}
use Rattle.std.specs.Option.{option_or}
use Rattle.fp_host.specs.Paths.{Elements}
use Rattle.fp_host.specs.View.{View}
use Rattle.fp_host.specs.Outcome.{shows}
use Rattle.fp_host.proofs.Shown.{now_left}
use Rattle.fp_name.specs.Hex.{is_digest}
use Rattle.fp_base.specs.declared.object.ObjKind.TheVariants as kinds
use Rattle.fp_base.proofs.Options.{first_none, second_none}
use Rattle.ost_model.specs.declared.object.Object.{Object}
use Rattle.ost_model.specs.Objects.{digest_fault, kind_fault, length_fault, mode_fault, name_fault, object_at, rule_fault, content_fault, store}
use Rattle.ost_model.proofs.Stores.{objects_are_named}
use Rattle.ost_store.specs.Place.{LeavesStore}
use Rattle.ost_pull.specs.Pulls.{HasTrueFiles}

-- an object without a fault has the digest of its name
digest_good : (d : List ℕ) (object : Object) → name_fault d kinds.File (Some object) ≡ None → digest_fault d object ≡ None
digest_good d object good =
    let content = second_none (kind_fault kinds.File object) (content_fault d kinds.File object) good in
    let after_length = second_none (length_fault object) (option_or (mode_fault object) (option_or (digest_fault d object) (rule_fault kinds.File object))) content in
    first_none (digest_fault d object) (rule_fault kinds.File object) (second_none (mode_fault object) (option_or (digest_fault d object) (rule_fault kinds.File object)) after_length)

pub stores_true : (root : Elements) (v : View) → LeavesStore root v → HasTrueFiles root v
stores_true root v leaves = record {
  each = λ d object digits there. elim (objects_are_named root (shows v) (leaves.each (shows v) (now_left v)) d kinds.File digits) [
    | inl away ↦ absurd (cc (sym (ap (object_at kinds.File) away) ∙ there))
    | inr named ↦ digest_good d object (sym (ap (name_fault d kinds.File) there) ∙ named.good)
  ];
}
