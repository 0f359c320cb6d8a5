-- What one path below `objects` is.
use Rattle.std.proofs.Common.{◌≡◌, ◌≤◌, ◌<◌, ◌&&◌, ℕ, List, length, Bool, true, false, not, leb, Option, Some, None, Result, Ok, Err, refl, sym, ◌∙◌, ap, subst}
use Rattle.std.specs.Option.{option_or}
use Rattle.std.specs.Prelude.{if◌then◌else◌, is_some, IfOk}
use Rattle.std.specs.Str.{bytes_eq}
use Rattle.std.proofs.lemmas.Bool.{le-leb, lt-leb, leb-true, leb-false, false_from_ne_true, and_parts, and_from}
use Rattle.std.proofs.lemmas.Slice.Eq.{bytes_eq-Decides}
use Rattle.fp_host.specs.Paths.{Elements, Slot, absent, dir, file, link, at}
use Rattle.fp_host.specs.View.{View, Inode, IsTree}
use Rattle.fp_host.specs.Reads.{IsStat}
use Rattle.fp_host.specs.Outcome.{Spot, spot_of, holding, shows}
use Rattle.fp_host.specs.declared.host.Stat.{Stat}
use Rattle.fp_host.proofs.Settled.{at_tree}
use Rattle.fp_base.specs.declared.object.ObjKind.{ObjKind}
use Rattle.fp_base.specs.declared.object.ObjKind.TheVariants as kinds
use Rattle.fp_base.specs.declared.rule.Rule.{Rule}
use Rattle.fp_base.proofs.Options.{none_by_test, or_alone, if_ok_to}
use Rattle.ost_model.specs.declared.object.Object.{Object}
use Rattle.ost_model.specs.declared.object.Object.TheVariants as objects
use Rattle.ost_model.specs.Contents.{meta_digest}
use Rattle.ost_model.specs.Readers.{if_broken, broken_rule}
use Rattle.ost_model.specs.Objects.{missing, too_long, corrupt, unless, as_malformed, may_be_link, kind_fault, content_fault, rule_fault, digest_fault, name_fault, object_at, object_fault, object_path, has_good_bits, Named}
use Rattle.ost_object.specs.Answers.{Breaks, mapped}
use Rattle.ost_object.specs.declared.error.ObjectError.{ObjectError}
use Rattle.ost_object.specs.declared.error.ObjectError.TheVariants as unread
use Rattle.fp_host.specs.Moments.{Moments}
use Rattle.fp_host.specs.Frame.{AtEnd, Unchanged}
use Rattle.fp_host.specs.declared.host.HostEnd.{HostEnd}
use Rattle.fp_host.proofs.Framed.{IsTold}
use Rattle.fp_host.proofs.Ending.{ends_to, ends_on, ends_both, ends_looks}
use Rattle.ost_store.specs.Names.{IsNamed}
use Rattle.ost_fsck.specs.declared.report.Finding.{Finding}
use Rattle.ost_store.specs.declared.reading.Got.{Got}
use Rattle.ost_store.specs.declared.reading.Got.TheVariants as got
use Rattle.ost_store.specs.Reads.{got_of}
use Rattle.ost_walk.specs.declared.ends.WalkFault.{WalkFault}
use Rattle.ost_head.specs.Objects.{IsFaultThere}
use Rattle.ost_head.specs.Contents.{IsGoodThere}
use Rattle.ost_fsck.specs.Judging.{has_bits, is_true, is_named, bad_unless, keeps_rules, meta_most, AreBitsAt, IsTrueAt, IsNamedAt, LooksAt, Looks}

-- ---- rules

abbrev pub unbroken : {A : Type 0} → Result A Rule → Bool
unbroken read = not (is_some (if_broken read))

pub reads_keep : {A : Type 0} (read : Result A Rule) (a : A) → read ≡ Ok a → true ≡ unbroken read
reads_keep (Ok b) a is = refl
reads_keep (Err rule) a is = absurd (cc is)

pub breaks_not : {A : Type 0} (read : Result A Rule) (rule : Rule) → read ≡ Err rule → false ≡ unbroken read
breaks_not (Ok b) rule is = absurd (cc is)
breaks_not (Err other) rule is = refl

pub parts_keep : {A B : Type 0} (part : A → B) (read : Result A Rule) (b : B) → mapped part read ≡ Ok b → true ≡ unbroken read
parts_keep part (Ok a) b is = refl
parts_keep part (Err rule) b is = absurd (cc is)

pub parts_break : {A B : Type 0} (part : A → B) (read : Result A Rule) (rule : Rule) → mapped part read ≡ Err rule → false ≡ unbroken read
parts_break part (Ok a) rule is = absurd (cc is)
parts_break part (Err other) rule is = refl

-- ---- metadata objects

rule_some : (rule : Option Rule) → is_some (as_malformed rule) ≡ is_some rule
rule_some None = refl
rule_some (Some rule) = refl

module _ (d : List ℕ) (kind : ObjKind) (bytes : List ℕ) (meta : may_be_link kind ≡ false) where
  of_kind : is_true d kind (Some (objects.Meta bytes)) ≡ not (is_some (content_fault d kind (objects.Meta bytes)))
  of_kind = ap (λ b. not (is_some (option_or (unless (not b) missing) (content_fault d kind (objects.Meta bytes))))) meta

  of_length : (b : Bool) → leb (length bytes) meta_most ≡ b → is_true d kind (Some (objects.Meta bytes)) ≡ not (is_some (option_or (unless b (too_long (length bytes))) (option_or (digest_fault d (objects.Meta bytes)) (rule_fault kind (objects.Meta bytes)))))
  of_length b is = of_kind ∙ ap (λ (x : Bool). not (is_some (option_or (unless x (too_long (length bytes))) (option_or (digest_fault d (objects.Meta bytes)) (rule_fault kind (objects.Meta bytes)))))) is

  pub long_untrue : meta_most < length bytes → false ≡ is_true d kind (Some (objects.Meta bytes))
  long_untrue more = sym (of_length false (lt-leb (length bytes) meta_most more))

  module _ (short : length bytes ≤ meta_most) where
    of_digest : (b : Bool) → bytes_eq (meta_digest bytes) d ≡ b → is_true d kind (Some (objects.Meta bytes)) ≡ not (is_some (option_or (unless b (corrupt (meta_digest bytes))) (rule_fault kind (objects.Meta bytes))))
    of_digest b is = of_length true (le-leb (length bytes) meta_most short) ∙ ap (λ (x : Bool). not (is_some (option_or (unless x (corrupt (meta_digest bytes))) (rule_fault kind (objects.Meta bytes))))) is

    pub corrupt_untrue : (got : List ℕ) → got ≡ meta_digest bytes → (got ≡ d → ⊥) → false ≡ is_true d kind (Some (objects.Meta bytes))
    corrupt_untrue digest is off = sym (of_digest false (false_from_ne_true (bytes_eq (meta_digest bytes) d) (λ t. off (is ∙ (bytes_eq-Decides (meta_digest bytes) d).0 t))))

    pub rules_true : (got : List ℕ) → got ≡ meta_digest bytes → got ≡ d → (keeps : Bool) → keeps ≡ keeps_rules kind bytes → keeps ≡ is_true d kind (Some (objects.Meta bytes))
    rules_true digest is same keeps by = by ∙ ap not (sym (rule_some (broken_rule kind bytes))) ∙ sym (of_digest true ((bytes_eq-Decides (meta_digest bytes) d).1 (sym is ∙ same)))

-- ---- what was got

got_meta : (bytes : List ℕ) (there : Option Object) → got.Meta bytes ≡ got_of meta_most there → (there ≡ Some (objects.Meta bytes)) × (length bytes ≤ meta_most)
got_meta bytes None is = absurd (cc is)
got_meta bytes (Some (objects.Link text)) is = absurd (cc is)
got_meta bytes (Some (objects.Meta b)) is = go (leb (length b) meta_most) refl is
  where
    go : (x : Bool) → leb (length b) meta_most ≡ x → got.Meta bytes ≡ (if x then got.Meta b else got.TooLong (length b)) → (Some (objects.Meta b) ≡ Some (objects.Meta bytes)) × (length bytes ≤ meta_most)
    go true at e =
        let same : b ≡ bytes = cc e in
        let short : length b ≤ meta_most = leb-true (length b) meta_most at in
        (ap (λ (x : List ℕ). Some (objects.Meta x)) same, subst (λ (x : List ℕ). length x ≤ meta_most) same short)
    go false at e = absurd (cc e)
got_meta bytes (Some (objects.File mode b)) is = absurd (go (leb (length b) meta_most) is)
  where
    go : (x : Bool) → got.Meta bytes ≡ (if x then got.File mode (length b) else got.TooLong (length b)) → ⊥
    go true e = cc e
    go false e = cc e

module _ (d : List ℕ) (kind : ObjKind) (meta : may_be_link kind ≡ false) where
  no_content : (o : Object) → kind_fault kind o ≡ unless (may_be_link kind) missing → false ≡ is_true d kind (Some o)
  no_content o by = sym (ap (λ f. not (is_some (option_or f (content_fault d kind o)))) (by ∙ ap (λ b. unless b missing) meta))

  -- what isn't got whole isn't the object
  pub not_got : (there : Option Object) (told : Got) → told ≡ got_of meta_most there → ((bytes : List ℕ) → told ≡ got.Meta bytes → ⊥) → false ≡ is_true d kind there
  not_got None told is none = refl
  not_got (Some (objects.Link text)) told is none = no_content (objects.Link text) refl
  not_got (Some (objects.File mode b)) told is none = no_content (objects.File mode b) refl
  not_got (Some (objects.Meta b)) told is none = go (leb (length b) meta_most) refl is
    where
      go : (x : Bool) → leb (length b) meta_most ≡ x → told ≡ (if x then got.Meta b else got.TooLong (length b)) → false ≡ is_true d kind (Some (objects.Meta b))
      go true at e = absurd (none b e)
      go false at e = long_untrue d kind b meta (leb-false (length b) meta_most at)

  -- and what is got is judged as it is there
  pub got_whole : (there : Option Object) (told : Got) (bytes : List ℕ) (is : Bool) → told ≡ got_of meta_most there → told ≡ got.Meta bytes
      → (length bytes ≤ meta_most → is ≡ is_true d kind (Some (objects.Meta bytes))) → is ≡ is_true d kind there
  got_whole there told bytes is by whole judged =
      let m = got_meta bytes there (sym whole ∙ by) in
      judged m.1 ∙ ap (is_true d kind) (sym m.0)

-- ---- files and links

content_is : (d : List ℕ) (o : Object) → object_fault d kinds.File (Some o) ≡ name_fault d kinds.File (Some o)
content_is d o = or_alone (name_fault d kinds.File (Some o))

pub content_true : (d : List ℕ) (there : Option Object) → IsGoodThere d there → true ≡ is_true d kinds.File there
content_true d there good = sym (ap (is_true d kinds.File) good.is ∙ ap (λ f. not (is_some f)) (sym (content_is d good.object) ∙ good.good))

pub content_absent : (d : List ℕ) (there : Option Object) → there ≡ None → false ≡ is_true d kinds.File there
content_absent d there none = sym (ap (is_true d kinds.File) none)

pub content_untrue : (d : List ℕ) (there : Option Object) (w : WalkFault) → IsFaultThere d kinds.File there w → false ≡ is_true d kinds.File there
content_untrue d there w off = sym (ap (is_true d kinds.File) off.is ∙ ap (λ f. not (is_some f)) (sym (content_is d off.object) ∙ off.fault.fault_is))

-- ---- permission bits

bits_at : (v : View) (e : Slot) (s : Stat) → IsStat v e s → has_bits s ≡ has_good_bits (spot_of v.files e)
bits_at v absent s is = ap has_bits is
bits_at v dir s is = ap has_bits is
bits_at v (link text) s is = ap has_bits is
bits_at v (file id) s is = ap has_bits is.2 ∙ sym (ap (λ (row : Option Inode). has_good_bits (holding id row)) is.1)

pub bits_shown : (v : View) (p : Elements) (s : Stat) → IsTree v → IsStat v (v.names p) s → has_bits s ≡ has_good_bits (shows v p)
bits_shown v p s tree is = bits_at v (v.names p) s is ∙ sym (ap (λ (e : Slot). has_good_bits (spot_of v.files e)) (at_tree v tree p))

-- ---- what a name says

pub bits_alone : (d : List ℕ) (kind : ObjKind) (spot : Spot) → false ≡ has_good_bits spot → false ≡ is_named d kind spot
bits_alone d kind spot off = ap (λ b. b && is_true d kind (object_at kind spot)) off

pub bits_both : (d : List ℕ) (kind : ObjKind) (spot : Spot) (is : Bool) → true ≡ has_good_bits spot → is ≡ is_true d kind (object_at kind spot) → is ≡ is_named d kind spot
bits_both d kind spot is good same = same ∙ ap (λ b. b && is_true d kind (object_at kind spot)) good

pub named_is : (d : List ℕ) (kind : ObjKind) (spot : Spot) → is_named d kind spot ≡ true → Named d kind spot
named_is d kind spot is =
    let both = and_parts (has_good_bits spot) (is_true d kind (object_at kind spot)) is in
    record { bits = both.0; good = none_by_test (name_fault d kind (object_at kind spot)) both.1 }

pub is_named_by : (d : List ℕ) (kind : ObjKind) (spot : Spot) → Named d kind spot → is_named d kind spot ≡ true
is_named_by d kind spot named = and_from (has_good_bits spot) (is_true d kind (object_at kind spot)) named.bits (ap (λ f. not (is_some f)) named.good)

pub parts_broken : {A B : Type 0} (part : A → B) (read : Result A Rule) (rule : Rule) (e : ObjectError) → e ≡ unread.Malformed rule → Breaks e (mapped part read) → false ≡ unbroken read
parts_broken part read rule e is broken = parts_break part read rule (subst (λ (x : ObjectError). Breaks x (mapped part read)) is broken)

-- ---- over the moments

bits_are : (root path : Elements) (d : List ℕ) (kind : ObjKind) (are : Bool) → path ≡ object_path root d kind → (u : View) → AreBitsAt path u are → are ≡ has_good_bits (shows u (object_path root d kind))
bits_are root path d kind are at_name u q = q.same ∙ ap (λ (p : Elements). has_good_bits (shows u p)) at_name

module _ (root path : Elements) (d : List ℕ) (kind : ObjKind) (are : Bool) (at_name : path ≡ object_path root d kind) where
  pub unnamed_after : {a b : Option Moments} → AtEnd (λ u w. AreBitsAt path u are) a b → are ≡ false → AtEnd (λ u w. IsNamedAt root d kind u false) a b
  unnamed_after bits off = ends_to bits (λ u w q. record { same = bits_alone d kind (shows u (object_path root d kind)) (sym off ∙ bits_are root path d kind are at_name u q) })

  pub named_after : {a b : Option Moments} (c : Option Moments) (r : Result Bool HostEnd) → AtEnd (λ u w. AreBitsAt path u are) a b → IsTold a → IsTold b → are ≡ true → Unchanged a b → IfOk r (λ is. AtEnd (λ u w. IsTrueAt root d kind u is) b c) → IfOk r (λ is. AtEnd (λ u w. IsNamedAt root d kind u is) a c)
  named_after c r bits known known_b good still tells = if_ok_to r (λ is t. ends_on t (ends_both (ends_looks known still) bits) known_b
      (λ u v w tree q true_at.
      let now : IsTrueAt root d kind u is = subst (λ (x : View). IsTrueAt root d kind x is) q.0.0 true_at in
      record { same = bits_both d kind (shows u (object_path root d kind)) is (sym good ∙ bits_are root path d kind are at_name u q.1) now.same })) tells

-- what was seen at an object's name
pub looked_at : {T : Type 0} {E : Type 0} {root path : Elements} (o : List ℕ × ObjKind) (a b : Option Moments) (is_object : T → Bool) (finding : T → Option Finding) (r : Result T E) → IsNamed root path (Some o)
    → IfOk r (λ t. AtEnd (λ u w. LooksAt root o.0 o.1 u (is_object t) (finding t)) a b) → IfOk r (λ t. AtEnd (λ u w. Looks root path u (is_object t) (finding t)) a b)
looked_at {root = root} {path = path} o a b is_object finding r named tells = if_ok_to r (λ t looks. ends_to looks (λ u w l. record {
  object = Some o;
  name = named;
  is = l.is;
  found = l.found ∙ ap (λ (p : Elements). bad_unless (is_named o.0 o.1 (shows u p)) o.0 o.1) (sym named.1);
})) tells
