-- A report from what is seen path by path.
use Rattle.std.proofs.Common.{◌≡◌, inl, inr, ◌<◌, ◌≤◌, ◌+◌, ℕ, Bool, true, false, List, [], length, get_or, Option, Some, None, Result, refl, sym, ◌∙◌, ap, subst, Contains, arith}
use Rattle.std.specs.Prelude.{is_some, IfOk}
use Rattle.std.specs.Int.{from_bool}
use Rattle.std.proofs.lemmas.Bool.{both_ways}
use Rattle.std.proofs.lemmas.List.{length_push}
use Rattle.fp_host.specs.Paths.{Elements, Slot, absent, dir, file, link}
use Rattle.fp_host.specs.View.{View, Inode, IsTree}
use Rattle.fp_host.specs.Calls.{IsLeaf}
use Rattle.fp_host.specs.Outcome.{Disk, spot_of, holding, shows}
use Rattle.fp_host.proofs.Settled.{at_tree}
use Rattle.fp_host.specs.Moments.{Moments}
use Rattle.fp_host.specs.Frame.{AtEnd, Unchanged}
use Rattle.fp_host.proofs.Framed.{IsTold}
use Rattle.fp_host.proofs.Ending.{ends_on, ends_both, ends_looks}
use Rattle.fp_base.specs.declared.object.ObjKind.{ObjKind}
use Rattle.fp_base.proofs.Options.{if_ok_to}
use Rattle.ost_model.specs.Objects.{object_path, Named}
use Rattle.ost_model.proofs.Stores.{one_name}
use Rattle.ost_store.specs.Names.{ListsNames, with_found, name_in}
use Rattle.ost_fsck.specs.declared.report.Finding.{Finding}
use Rattle.ost_fsck.specs.declared.report.Finding.TheVariants as findings
use Rattle.ost_fsck.specs.declared.report.Report.{Report}
use Rattle.ost_fsck.specs.Report.{path_in, IsEntry, IsSo, Reports}
use Rattle.fp_host.specs.Outcome.{IsLeafSpot}
use Rattle.ost_fsck.specs.Judging.{is_named, bad_unless, finding_at, IsNameOf, Looks}
use Rattle.ost_fsck.specs.Picking.{IsOff, IsObject, Checks}
use Rattle.ost_fsck.proofs.Judged.{named_is, is_named_by}
use Rattle.ost_fsck.proofs.Picking.{PicksSoFar, IsPicked, none_picked, next_picked, all_picked}

abbrev Object : Type 0
Object = List ℕ × ObjKind

-- ---- each path is that of one object, or of one finding

one_object : (root : Elements) (a b : Object) → IsObject a → IsObject b → name_in root a ≡ name_in root b → a ≡ b
one_object root a b of_a of_b same =
    let one = one_name root a.0 b.0 a.1 b.1 of_a of_b same in
    λ i. (one.0 i, one.1 i)

one_finding : (root : Elements) (disk : Disk) (a b : Finding) → IsOff root disk a → IsOff root disk b → path_in root a ≡ path_in root b → a ≡ b
one_finding root disk (findings.Bad d kind) (findings.Bad e other) of_a of_b same =
    let one = one_name root d e kind other of_a.0 of_b.0 same in
    λ i. findings.Bad (one.0 i) (one.1 i)
one_finding root disk (findings.Bad d kind) (findings.Stray path) of_a of_b same = absurd (of_b (d, kind) of_a.0 (sym same))
one_finding root disk (findings.Stray path) (findings.Bad d kind) of_a of_b same = absurd (of_a (d, kind) of_b.0 same)
one_finding root disk (findings.Stray path) (findings.Stray other) of_a of_b same = ap (λ (p : Elements). findings.Stray p) same

-- ---- what a path is that of

module _ (root path : Elements) (disk : Disk) where
  object_picked : (o : Option Object) → IsNameOf root path o → IsPicked IsObject (name_in root) path o
  object_picked None none = λ o same of. none o of same
  object_picked (Some o) of = of

  finding_picked : (o : Option Object) → IsNameOf root path o → IsPicked (IsOff root disk) (path_in root) path (finding_at path o disk)
  finding_picked None none = (none, refl)
  finding_picked (Some o) of = go (is_named o.0 o.1 (disk path)) refl
    where
      shown : disk path ≡ disk (object_path root o.0 o.1)
      shown = ap disk of.1

      go : (b : Bool) → is_named o.0 o.1 (disk path) ≡ b → IsPicked (IsOff root disk) (path_in root) path (bad_unless b o.0 o.1)
      go false off = ((of.0, λ (named : Named o.0 o.1 (disk (object_path root o.0 o.1))). both_ways (is_named o.0 o.1 (disk path)) off (ap (is_named o.0 o.1) shown ∙ is_named_by o.0 o.1 (disk (object_path root o.0 o.1)) named)), of.1)
      go true is = λ f same wrong. none f same wrong
        where
          none : (f : Finding) → path ≡ path_in root f → IsOff root disk f → ⊥
          none (findings.Bad d kind) same wrong =
              let one = one_object root (d, kind) o wrong.0 of.0 (sym same ∙ of.1) in
              wrong.1 (subst (λ (x : Object). Named x.0 x.1 (disk (name_in root x))) (sym one) (named_is o.0 o.1 (disk (object_path root o.0 o.1)) (ap (is_named o.0 o.1) (sym shown) ∙ is)))
          none (findings.Stray p) same wrong = wrong o of.0 (sym same ∙ of.1)

-- ---- path after path

-- what was seen at the first i paths
pub record SoFar (root : Elements) (paths : List Elements) (i : ℕ) (v : View) (found : List Finding) (objects : ℕ) : Type 0 where
  pub wrong : PicksSoFar (IsOff root (shows v)) (path_in root) paths i found
  pub named : List Object
  pub entries : PicksSoFar IsObject (name_in root) paths i named
  pub count : objects ≡ length named

pub nothing_seen : (root : Elements) (paths : List Elements) (v : View) (found : List Finding) → found ≡ [] → SoFar root paths 0 v found 0
nothing_seen root paths v found none = record {
  wrong = none_picked (IsOff root (shows v)) (path_in root) paths found none;
  named = [];
  entries = none_picked IsObject (name_in root) paths [] refl;
  count = refl;
}

one_more : (named : List Object) (o : Option Object) → length (with_found named o) ≡ length named + from_bool (is_some o)
one_more named None = omega arith
one_more named (Some o) = length_push named o

pub more_seen : (root : Elements) (paths : List Elements) (i : ℕ) (path : Elements) (v : View) (found : List Finding) (objects : ℕ) → i < length paths → path ≡ get_or paths i path → SoFar root paths i v found objects
    → (is_object : Bool) (finding : Option Finding) (found' : List Finding) (objects' : ℕ) → Looks root path v is_object finding → found' ≡ with_found found finding → objects' ≡ objects + from_bool is_object → SoFar root paths (i + 1) v found' objects'
more_seen root paths i path v found objects low is before is_object finding found' objects' looks pushed counted = record {
  wrong = subst (PicksSoFar (IsOff root (shows v)) (path_in root) paths (i + 1)) (sym (pushed ∙ ap (with_found found) looks.found))
      (next_picked (IsOff root (shows v)) (path_in root) paths i path found low is before.wrong (one_finding root (shows v)) (finding_at path looks.object (shows v)) (finding_picked root path (shows v) looks.object looks.name));
  named = with_found before.named looks.object;
  entries = next_picked IsObject (name_in root) paths i path before.named low is before.entries (one_object root) looks.object (object_picked root path (shows v) looks.object looks.name);
  count = counted ∙ ap (λ (n : ℕ). n + from_bool is_object) before.count ∙ ap (λ b. length before.named + from_bool b) looks.is ∙ sym (one_more before.named looks.object);
}

pub all_seen : (root : Elements) (paths : List Elements) (i : ℕ) (v : View) (report : Report) → length paths ≡ i → SoFar root paths i v report.findings report.objects → Checks root paths v report
all_seen root paths i v report is so_far = record {
  findings = all_picked (IsOff root (shows v)) (path_in root) paths i report.findings is so_far.wrong;
  objects = so_far.named;
  entries = all_picked IsObject (name_in root) paths i so_far.named is so_far.entries;
  count = so_far.count;
}

-- ---- all paths

leaf_shown : (v : View) (e : Slot) → ((id : ℕ) → e ≡ file id → v.files id ≡ None → ⊥) → IsLeaf e → IsLeafSpot (spot_of v.files e)
leaf_shown v absent known leaf = leaf
leaf_shown v dir known leaf = leaf
leaf_shown v (link text) known leaf = tt
leaf_shown v (file id) known leaf = go (v.files id) (known id refl)
  where
    go : (row : Option Inode) → (row ≡ None → ⊥) → IsLeafSpot (holding id row)
    go None there = absurd (there refl)
    go (Some f) there = tt

leaf_held : (v : View) (e : Slot) → IsLeafSpot (spot_of v.files e) → IsLeaf e
leaf_held v absent leaf = leaf
leaf_held v dir leaf = leaf
leaf_held v (link text) leaf = tt
leaf_held v (file id) leaf = tt

module _ (root : Elements) (paths : List Elements) (v : View) (tree : IsTree v) (lists : ListsNames root v paths) where
  leaf_is : (q : Elements) → IsLeaf (v.names q) → IsLeafSpot (shows v q)
  leaf_is q leaf = subst (λ (e : Slot). IsLeafSpot (spot_of v.files e)) (sym (at_tree v tree q)) (leaf_shown v (v.names q) (λ id is. tree.known q id (inl (sym is))) leaf)

  leaf_back : (q : Elements) → IsLeafSpot (shows v q) → IsLeaf (v.names q)
  leaf_back q leaf = leaf_held v (v.names q) (subst (λ (e : Slot). IsLeafSpot (spot_of v.files e)) (at_tree v tree q) leaf)

  listed : (o : Object) → IsEntry root (shows v) o → Contains paths (name_in root o)
  listed o entry = (lists.leaves.each (name_in root o)).1 (inr (inl refl), leaf_back (name_in root o) entry.there)

  entry_of : (o : Object) → IsObject o → Contains paths (name_in root o) → IsEntry root (shows v) o
  entry_of o digits has = record { digits = digits; there = leaf_is (name_in root o) ((lists.leaves.each (name_in root o)).0 has).1 }

  so_of : (f : Finding) → IsOff root (shows v) f → Contains paths (path_in root f) → IsSo root (shows v) f
  so_of (findings.Bad d kind) off has = record { entry = entry_of (d, kind) off.0 has; untrue = off.1 }
  so_of (findings.Stray path) off has =
      let leaf = (lists.leaves.each path).0 has in
      record { below = leaf.0; there = leaf_is path leaf.1; nameless = off }

  off_of : (f : Finding) → IsSo root (shows v) f → IsOff root (shows v) f × Contains paths (path_in root f)
  off_of (findings.Bad d kind) so = ((so.entry.digits, so.untrue), listed (d, kind) so.entry)
  off_of (findings.Stray path) so = (so.nameless, (lists.leaves.each path).1 (so.below, leaf_back path so.there))

  pub reported : (report : Report) → Checks root paths v report → Reports root (shows v) report
  reported report checks = record {
    each = λ f. (λ has. let p = (checks.findings.each f).0 has in so_of f p.0 p.1, λ so. (checks.findings.each f).1 (off_of f so));
    ascending = checks.findings.ascending lists.ascending;
    objects = checks.objects;
    entries = λ o. (λ has. let p = (checks.entries.each o).0 has in entry_of o p.0 p.1, λ entry. (checks.entries.each o).1 (entry.digits, listed o entry));
    once = checks.entries.ascending lists.ascending;
    count = checks.count;
  }

pub bool_within : (b : Bool) → from_bool b ≤ 1
bool_within true = omega arith
bool_within false = omega arith

-- ---- over the moments

pub reported_all : {E : Type 0} {a b : Option Moments} (c : Option Moments) {root : Elements} {paths l : List Elements} (r : Result Report E) → l ≡ paths → IsTold a → IsTold b → Unchanged a b → AtEnd (λ u w. ListsNames root u paths) a b
    → IfOk r (λ report. AtEnd (λ u w. Checks root l u report) b c) → IfOk r (λ report. AtEnd (λ u w. Reports root (shows u) report) a c)
reported_all c {root = root} {paths = paths} {l = l} r same_paths known known_b still names tells = if_ok_to r (λ report checks. ends_on checks (ends_both (ends_looks known still) names) known_b
    (λ u v w tree q k. reported root paths u (subst IsTree q.0.0 tree) q.1 report (subst (λ (x : View). Checks root paths x report) q.0.0 (subst (λ (p : List Elements). Checks root p v report) same_paths k)))) tells
