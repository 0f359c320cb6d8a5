-- The eight fields of a commit, by their bytes.
use Rattle.std.proofs.Common.{◌≡◌, ℕ, ◌≤◌, List, [], ◌∷◌, length, Option, Some, None, option_map, option_and_then, refl, sym, ap, ap₂, ◌∙◌, subst, arith}
use Rattle.std.specs.Prelude.{Result, Ok, Err}
use Rattle.std.specs.Option.{IsSome}
use Rattle.gv_value.specs.declared.basic.Basic.TheVariants as basics
use Rattle.gv_value.specs.Bytes.{AllBelow}
use Rattle.gv_value.specs.Reading.{read_each, value_at, value_of}
use Rattle.gv_value.specs.Shape.{Shape, Shapes, no_shapes, shape}
use Rattle.gv_value.specs.Tree.{Tree, Trees, no_trees, tree}
use Rattle.gv_decode.specs.Decoded.{children_of}
use Rattle.gv_decode.proofs.Contained.{alone, value-short, tuple-value, first-read, none-read, not-read}
use Rattle.gv_decode.proofs.Short.{Each, IsShort, children-each, short-of-parts, bytes-of-parts}
use Rattle.ost_model.specs.Contents.{bytes_shape}
use Rattle.ost_model.specs.Types.{text_shape, dictionary_shape, related_shape, commit_shape}
use Rattle.ost_model.specs.Fields.{CommitView, text_in, time_in, bytes_in, commit_from, commit_in}
use Rattle.ost_object.specs.declared.commit_parts.CommitParts.{CommitParts}
use Rattle.fp_base.specs.declared.rule.Rule.{Rule}
use Rattle.ost_object.specs.declared.error.ObjectError.{ObjectError}
use Rattle.ost_object.specs.declared.error.ObjectError.TheVariants as errors
use Rattle.ost_object.specs.Answers.{Finds, Misses}
use Rattle.ost_object.specs.Views.{tree_at, text_at, time_at, parts_view, part_list, if_eight}
use Rattle.ost_model.specs.Types.{time_shape}
use Rattle.ost_object.proofs.Kept.{tree_at-is, some-value, bytes-field, text-field, time-field}

abbrev one_left : Shapes
one_left = shape bytes_shape no_shapes

abbrev two_left : Shapes
two_left = shape bytes_shape one_left

abbrev three_left : Shapes
three_left = shape time_shape two_left

abbrev four_left : Shapes
four_left = shape text_shape three_left

abbrev five_left : Shapes
five_left = shape text_shape four_left

abbrev six_left : Shapes
six_left = shape related_shape five_left

abbrev seven : Shapes
seven = shape bytes_shape six_left

abbrev eight_shapes : Shapes
eight_shapes = shape dictionary_shape seven

-- the values of eight fields
record EightRead (a p r s b t d m : List ℕ) (vs : Trees) : Type 0 where
  va : Tree
  vp : Tree
  vr : Tree
  vs' : Tree
  vb : Tree
  vt : Tree
  vd : Tree
  vm : Tree
  is : vs ≡ tree va (tree vp (tree vr (tree vs' (tree vb (tree vt (tree vd (tree vm no_trees)))))))
  ra : value_at 63 dictionary_shape a ≡ Some va
  rp : value_at 63 bytes_shape p ≡ Some vp
  rr : value_at 63 related_shape r ≡ Some vr
  rs : value_at 63 text_shape s ≡ Some vs'
  rb : value_at 63 text_shape b ≡ Some vb
  rt : value_at 63 time_shape t ≡ Some vt
  rd : value_at 63 bytes_shape d ≡ Some vd
  rm : value_at 63 bytes_shape m ≡ Some vm

eight-read : (a p r s b t d m : List ℕ) (vs : Trees) → read_each (value_at 63) eight_shapes (a ∷ p ∷ r ∷ s ∷ b ∷ t ∷ d ∷ m ∷ []) ≡ Some vs → EightRead a p r s b t d m vs
eight-read a p r s b t d m vs e =
    let one = value_at 63 in
    let f1 = first-read one dictionary_shape seven a (p ∷ r ∷ s ∷ b ∷ t ∷ d ∷ m ∷ []) vs e in
    let f2 = first-read one bytes_shape six_left p (r ∷ s ∷ b ∷ t ∷ d ∷ m ∷ []) f1.tail f1.rest in
    let f3 = first-read one related_shape five_left r (s ∷ b ∷ t ∷ d ∷ m ∷ []) f2.tail f2.rest in
    let f4 = first-read one text_shape four_left s (b ∷ t ∷ d ∷ m ∷ []) f3.tail f3.rest in
    let f5 = first-read one text_shape three_left b (t ∷ d ∷ m ∷ []) f4.tail f4.rest in
    let f6 = first-read one time_shape two_left t (d ∷ m ∷ []) f5.tail f5.rest in
    let f7 = first-read one bytes_shape one_left d (m ∷ []) f6.tail f6.rest in
    let f8 = first-read one bytes_shape no_shapes m [] f7.tail f7.rest in
    let end = none-read one [] f8.tail f8.rest in
    let i8 : f7.tail ≡ tree f8.head no_trees = f8.is ∙ ap (tree f8.head) end.0 in
    let i7 : f6.tail ≡ tree f7.head (tree f8.head no_trees) = f7.is ∙ ap (tree f7.head) i8 in
    let i6 : f5.tail ≡ tree f6.head (tree f7.head (tree f8.head no_trees)) = f6.is ∙ ap (tree f6.head) i7 in
    let i5 = f5.is ∙ ap (tree f5.head) i6 in
    let i4 = f4.is ∙ ap (tree f4.head) i5 in
    let i3 = f3.is ∙ ap (tree f3.head) i4 in
    let i2 = f2.is ∙ ap (tree f2.head) i3 in
    record {
      va = f1.head;
      vp = f2.head;
      vr = f3.head;
      vs' = f4.head;
      vb = f5.head;
      vt = f6.head;
      vd = f7.head;
      vm = f8.head;
      is = f1.is ∙ ap (tree f1.head) i2;
      ra = f1.reads;
      rp = f2.reads;
      rr = f3.reads;
      rs = f4.reads;
      rb = f5.reads;
      rt = f6.reads;
      rd = f7.reads;
      rm = f8.reads;
    }

abbrev seven_of : Option (List ℕ) → Option (List ℕ) → Option (List ℕ) → Option ℕ → Option (List ℕ) → Option (List ℕ) → Tree → Tree → Option CommitView
seven_of p s b t d m a r = commit_from a r p s b t d m

-- what eight fields say
eight-say : (p : CommitParts) (vs : Trees) → Each IsShort (part_list p) → Each (AllBelow 256) (part_list p) → read_each (value_at 63) eight_shapes (part_list p) ≡ Some vs →
    commit_in (Tree.tuple vs) ≡ Some (parts_view p)
eight-say p vs short below e =
    let E = eight-read p.metadata.now p.parent.now p.related.now p.subject.now p.body.now p.time.now p.tree.now p.meta.now vs e in
    let metadata = tree_at-is dictionary_shape p.metadata.now E.va (alone 63 dictionary_shape p.metadata.now E.va (omega arith) refl short.0 E.ra) in
    let related = tree_at-is related_shape p.related.now E.vr (alone 63 related_shape p.related.now E.vr (omega arith) refl short.1.1.0 E.rr) in
    let parent = bytes-field p.parent.now E.vp below.1.0 E.rp in
    let subject = text-field p.subject.now E.vs' short.1.1.1.0 E.rs in
    let body = text-field p.body.now E.vb short.1.1.1.1.0 E.rb in
    let time = time-field p.time.now E.vt short.1.1.1.1.1.0 E.rt in
    let root = bytes-field p.tree.now E.vd below.1.1.1.1.1.1.0 E.rd in
    let meta = bytes-field p.meta.now E.vm below.1.1.1.1.1.1.1.0 E.rm in
    ap (λ (x : Trees). commit_in (Tree.tuple x)) E.is
    ∙ ap (λ (o : Option (List ℕ)). commit_from E.va E.vr o (text_in E.vs') (text_in E.vb) (time_in E.vt) (bytes_in E.vd) (bytes_in E.vm)) parent
    ∙ ap (λ (o : Option (List ℕ)). commit_from E.va E.vr (Some p.parent.now) o (text_in E.vb) (time_in E.vt) (bytes_in E.vd) (bytes_in E.vm)) subject
    ∙ ap (λ (o : Option (List ℕ)). commit_from E.va E.vr (Some p.parent.now) (Some (text_at p.subject.now)) o (time_in E.vt) (bytes_in E.vd) (bytes_in E.vm)) body
    ∙ ap (λ (o : Option ℕ). commit_from E.va E.vr (Some p.parent.now) (Some (text_at p.subject.now)) (Some (text_at p.body.now)) o (bytes_in E.vd) (bytes_in E.vm)) time
    ∙ ap (λ (o : Option (List ℕ)). commit_from E.va E.vr (Some p.parent.now) (Some (text_at p.subject.now)) (Some (text_at p.body.now)) (Some (time_at p.time.now)) o (bytes_in E.vm)) root
    ∙ ap (λ (o : Option (List ℕ)). commit_from E.va E.vr (Some p.parent.now) (Some (text_at p.subject.now)) (Some (text_at p.body.now)) (Some (time_at p.time.now)) (Some p.tree.now) o) meta
    ∙ ap₂ (seven_of (Some p.parent.now) (Some (text_at p.subject.now)) (Some (text_at p.body.now)) (Some (time_at p.time.now)) (Some p.tree.now) (Some p.meta.now)) (sym metadata) (sym related)

-- ---- the commit that they are

-- the children are these eight
pub parts-say : (bytes : List ℕ) (cs : List (List ℕ)) (p : CommitParts) → AllBelow 256 bytes → IsSome (value_of commit_shape bytes) → children_of commit_shape bytes ≡ Some cs → cs ≡ part_list p →
    option_and_then commit_in (value_of commit_shape bytes) ≡ Some (parts_view p)
parts-say bytes cs p below some found is =
    let v = some-value (value_of commit_shape bytes) some in
    let t = tuple-value eight_shapes bytes v.0 v.1 in
    let here : children_of commit_shape bytes ≡ Some (part_list p) = found ∙ ap (λ (xs : List (List ℕ)). Some xs) is in
    let read : read_each (value_at 63) eight_shapes (part_list p) ≡ Some t.0 = sym (ap (option_and_then (read_each (value_at 63) eight_shapes)) here) ∙ t.2 in
    let short = children-each IsShort short-of-parts commit_shape bytes (part_list p) (value-short commit_shape bytes v.0 v.1) here in
    let bytes_each = children-each (AllBelow 256) bytes-of-parts commit_shape bytes (part_list p) below here in
    ap (option_and_then commit_in) v.1 ∙ ap commit_in t.1 ∙ eight-say p t.0 short bytes_each read

-- no children, no commit
pub no-children : (bytes : List ℕ) → children_of commit_shape bytes ≡ None → option_and_then commit_in (value_of commit_shape bytes) ≡ None
no-children bytes none = by (value_of commit_shape bytes) refl
  where
    no : {A : Type 0} {x : A} → None ≡ Some x → ⊥
    no h = cc

    by : (o : Option Tree) → value_of commit_shape bytes ≡ o → option_and_then commit_in o ≡ None
    by None e = refl
    by (Some v) e = let t = tuple-value eight_shapes bytes v e in absurd (no (sym (ap (option_and_then (read_each (value_at 63) eight_shapes)) none) ∙ t.2))

five-not : (a b c : List ℕ) (cs : List (List ℕ)) (us : Trees) → if_eight (a ∷ b ∷ c ∷ cs) ≡ None → read_each (value_at 63) five_left cs ≡ Some us → ⊥
five-not a b c [] us none e = not-read (value_at 63) text_shape four_left us e
five-not a b c (s ∷ []) us none e =
    let f1 = first-read (value_at 63) text_shape four_left s [] us e in not-read (value_at 63) text_shape three_left f1.tail f1.rest
five-not a b c (s ∷ t ∷ []) us none e =
    let f1 = first-read (value_at 63) text_shape four_left s (t ∷ []) us e in
    let f2 = first-read (value_at 63) text_shape three_left t [] f1.tail f1.rest in not-read (value_at 63) time_shape two_left f2.tail f2.rest
five-not a b c (s ∷ t ∷ u ∷ []) us none e =
    let f1 = first-read (value_at 63) text_shape four_left s (t ∷ u ∷ []) us e in
    let f2 = first-read (value_at 63) text_shape three_left t (u ∷ []) f1.tail f1.rest in
    let f3 = first-read (value_at 63) time_shape two_left u [] f2.tail f2.rest in not-read (value_at 63) bytes_shape one_left f3.tail f3.rest
five-not a b c (s ∷ t ∷ u ∷ d ∷ []) us none e =
    let f1 = first-read (value_at 63) text_shape four_left s (t ∷ u ∷ d ∷ []) us e in
    let f2 = first-read (value_at 63) text_shape three_left t (u ∷ d ∷ []) f1.tail f1.rest in
    let f3 = first-read (value_at 63) time_shape two_left u (d ∷ []) f2.tail f2.rest in
    let f4 = first-read (value_at 63) bytes_shape one_left d [] f3.tail f3.rest in not-read (value_at 63) bytes_shape no_shapes f4.tail f4.rest
five-not a b c (s ∷ t ∷ u ∷ d ∷ m ∷ []) us none e = absurd cc
five-not a b c (s ∷ t ∷ u ∷ d ∷ m ∷ x ∷ xs) us none e =
    let f1 = first-read (value_at 63) text_shape four_left s (t ∷ u ∷ d ∷ m ∷ x ∷ xs) us e in
    let f2 = first-read (value_at 63) text_shape three_left t (u ∷ d ∷ m ∷ x ∷ xs) f1.tail f1.rest in
    let f3 = first-read (value_at 63) time_shape two_left u (d ∷ m ∷ x ∷ xs) f2.tail f2.rest in
    let f4 = first-read (value_at 63) bytes_shape one_left d (m ∷ x ∷ xs) f3.tail f3.rest in
    let f5 = first-read (value_at 63) bytes_shape no_shapes m (x ∷ xs) f4.tail f4.rest in
    no_more (none-read (value_at 63) (x ∷ xs) f5.tail f5.rest).1
  where
    no_more : x ∷ xs ≡ [] → ⊥
    no_more h = cc

not-eight : (cs : List (List ℕ)) (vs : Trees) → if_eight cs ≡ None → read_each (value_at 63) eight_shapes cs ≡ Some vs → ⊥
not-eight [] vs none e = not-read (value_at 63) dictionary_shape seven vs e
not-eight (a ∷ []) vs none e = let f1 = first-read (value_at 63) dictionary_shape seven a [] vs e in not-read (value_at 63) bytes_shape six_left f1.tail f1.rest
not-eight (a ∷ b ∷ []) vs none e =
    let f1 = first-read (value_at 63) dictionary_shape seven a (b ∷ []) vs e in
    let f2 = first-read (value_at 63) bytes_shape six_left b [] f1.tail f1.rest in not-read (value_at 63) related_shape five_left f2.tail f2.rest
not-eight (a ∷ b ∷ c ∷ cs) vs none e =
    let f1 = first-read (value_at 63) dictionary_shape seven a (b ∷ c ∷ cs) vs e in
    let f2 = first-read (value_at 63) bytes_shape six_left b (c ∷ cs) f1.tail f1.rest in
    let f3 = first-read (value_at 63) related_shape five_left c cs f2.tail f2.rest in five-not a b c cs f3.tail none f3.rest

-- and none where there aren't eight
pub others-say : (bytes : List ℕ) (cs : List (List ℕ)) → children_of commit_shape bytes ≡ Some cs → if_eight cs ≡ None → option_and_then commit_in (value_of commit_shape bytes) ≡ None
others-say bytes cs found not = by (value_of commit_shape bytes) refl
  where
    by : (o : Option Tree) → value_of commit_shape bytes ≡ o → option_and_then commit_in o ≡ None
    by None e = refl
    by (Some v) e =
        let t = tuple-value eight_shapes bytes v e in
        absurd (not-eight cs t.0 not (sym (ap (option_and_then (read_each (value_at 63) eight_shapes)) found) ∙ t.2))

eight-is : (cs xs : List (List ℕ)) → if_eight cs ≡ Some xs → cs ≡ xs
eight-is [] xs e = absurd cc
eight-is (a ∷ []) xs e = absurd cc
eight-is (a ∷ b ∷ []) xs e = absurd cc
eight-is (a ∷ b ∷ c ∷ []) xs e = absurd cc
eight-is (a ∷ b ∷ c ∷ d ∷ []) xs e = absurd cc
eight-is (a ∷ b ∷ c ∷ d ∷ f ∷ []) xs e = absurd cc
eight-is (a ∷ b ∷ c ∷ d ∷ f ∷ g ∷ []) xs e = absurd cc
eight-is (a ∷ b ∷ c ∷ d ∷ f ∷ g ∷ h ∷ []) xs e = absurd cc
eight-is (a ∷ b ∷ c ∷ d ∷ f ∷ g ∷ h ∷ i ∷ []) xs e = cc
eight-is (a ∷ b ∷ c ∷ d ∷ f ∷ g ∷ h ∷ i ∷ j ∷ cs) xs e = absurd cc

-- what is found among the children is what the commit says
pub finds-commit : (bytes : List ℕ) (cs : List (List ℕ)) (r : Result CommitParts ObjectError) → AllBelow 256 bytes → IsSome (value_of commit_shape bytes) → children_of commit_shape bytes ≡ Some cs →
    Finds part_list r (if_eight cs) → Finds parts_view r (option_and_then commit_in (value_of commit_shape bytes))
finds-commit bytes cs (Ok p) below some found h = parts-say bytes cs p below some found (eight-is cs (part_list p) h)
finds-commit bytes cs (Err (errors.Malformed rule)) below some found h = (h.0, others-say bytes cs found h.1)
finds-commit bytes cs (Err errors.NoMemory) below some found h = tt

-- and what isn't is none
pub misses-value : (rule : Rule) (e : ObjectError) (bytes : List ℕ) → Misses rule e (value_of commit_shape bytes) → Misses rule e (option_and_then commit_in (value_of commit_shape bytes))
misses-value rule (errors.Malformed broken) bytes h = (h.0, ap (option_and_then commit_in) h.1)
misses-value rule errors.NoMemory bytes h = tt

pub misses-children : (rule : Rule) (e : ObjectError) (bytes : List ℕ) → Misses rule e (children_of commit_shape bytes) → Misses rule e (option_and_then commit_in (value_of commit_shape bytes))
misses-children rule (errors.Malformed broken) bytes h = (h.0, no-children bytes h.1)
misses-children rule errors.NoMemory bytes h = tt
