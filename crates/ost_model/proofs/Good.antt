-- Objects without a fault.
use Rattle.std.proofs.Common.{◌≡◌, ℕ, suc, List, [], ◌∷◌, Bool, true, false, leb, if◌then◌else◌, Option, Some, None, Result, Ok, Err, refl, ◌∙◌, ap}
use Rattle.std.specs.Option.{option_or}
use Rattle.fp_base.specs.declared.object.ObjKind.TheVariants as kinds
use Rattle.fp_base.specs.declared.object.ObjKind.{ObjKind}
use Rattle.fp_base.specs.declared.rule.Rule.{Rule}
use Rattle.ost_model.specs.declared.object.Object.{Object}
use Rattle.ost_model.specs.declared.object.Object.TheVariants as objects
use Rattle.ost_model.specs.Fields.{CommitView, TreeView}
use Rattle.ost_model.specs.Readers.{commit_read, commit_of, tree_read, tree_of, if_read, if_broken}
use Rattle.ost_model.specs.Objects.{Have, Fault, as_malformed, kind_fault, content_fault, length_fault, mode_fault, digest_fault, rule_fault, name_fault, dir_mode_fault, object_fault}
use Rattle.ost_model.specs.Order.{Place, read_as, place_fault, walk_fault, of_metadata, found_at, first_of}
use Rattle.ost_model.proofs.Places.{or_none, found_none}

not_broken : {A : Type 0} (r : Result A Rule) → as_malformed (if_broken r) ≡ None → (a : A) × (if_read r ≡ Some a)
not_broken (Ok a) good = (a, refl)
not_broken (Err rule) good = absurd (cc good)

-- the last fault that is looked for
no_rule : (d : List ℕ) (kind : ObjKind) (bytes : List ℕ) → object_fault d kind (Some (objects.Meta bytes)) ≡ None → rule_fault kind (objects.Meta bytes) ≡ None
no_rule d kind bytes good =
    let o = objects.Meta bytes in
    let a = or_none (name_fault d kind (Some o)) (dir_mode_fault kind (Some o)) good in
    let b = or_none (kind_fault kind o) (content_fault d kind o) a.0 in
    let c = or_none (length_fault o) _ b.1 in
    let e = or_none (mode_fault o) _ c.1 in
    (or_none (digest_fault d o) (rule_fault kind o) e.1).1

pub good_tree : (d : List ℕ) (o : Option Object) → object_fault d kinds.DirTree o ≡ None → (v : TreeView) × (read_as tree_of o ≡ Some v)
good_tree d None good = absurd (cc good)
good_tree d (Some (objects.File mode bytes)) good = absurd (cc good)
good_tree d (Some (objects.Link text)) good = absurd (cc good)
good_tree d (Some (objects.Meta bytes)) good = not_broken (tree_read bytes) (no_rule d kinds.DirTree bytes good)

pub good_commit : (d : List ℕ) (o : Option Object) → object_fault d kinds.Commit o ≡ None → (v : CommitView) × (read_as commit_of o ≡ Some v)
good_commit d None good = absurd (cc good)
good_commit d (Some (objects.File mode bytes)) good = absurd (cc good)
good_commit d (Some (objects.Link text)) good = absurd (cc good)
good_commit d (Some (objects.Meta bytes)) good = not_broken (commit_read bytes) (no_rule d kinds.Commit bytes good)

-- ---- metadata objects alone

limited_none : (b c : Bool) (too_many too_deep : Fault) (f g : Option Fault) → (f ≡ None → g ≡ None) → (if b then Some too_many else (if c then Some too_deep else f)) ≡ None → (if b then Some too_many else (if c then Some too_deep else g)) ≡ None
limited_none true c m e f g step none = absurd (cc none)
limited_none false true m e f g step none = absurd (cc none)
limited_none false false m e f g step none = step none

metadata_none : (kind : ObjKind) (f : Option Fault) → f ≡ None → of_metadata kind f ≡ None
metadata_none kinds.File f none = refl
metadata_none kinds.Commit f none = none
metadata_none kinds.DirTree f none = none
metadata_none kinds.DirMeta f none = none

walk_none : (have : Have) (n : ℕ) (p : Place) → place_fault have n p ≡ None → walk_fault have n p ≡ None
walk_none have n p none =
    let f = object_fault p.digest p.kind (have p.digest p.kind) in
    limited_none (leb 200000 n) (leb 65 p.depth) _ _ f (of_metadata p.kind f) (metadata_none p.kind f) none

found_of_none : (p : Place) (f : Option Fault) → f ≡ None → found_at p f ≡ None
found_of_none p f none = ap (found_at p) none

pub walks_none : (have : Have) (n : ℕ) (ps : List Place) → first_of (place_fault have) n ps ≡ None → first_of (walk_fault have) n ps ≡ None
walks_none have n [] none = refl
walks_none have n (p ∷ ps) none =
    let both = or_none (found_at p (place_fault have n p)) (first_of (place_fault have) (suc n) ps) none in
    ap (λ f. option_or f (first_of (walk_fault have) (suc n) ps)) (found_of_none p (walk_fault have n p) (walk_none have n p (found_none p (place_fault have n p) both.0)))
    ∙ walks_none have (suc n) ps both.1
