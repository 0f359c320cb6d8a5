-- The value that says a commit is the only one that says it.
use Rattle.std.proofs.Common.{◌≡◌, ℕ, ◌^◌, ◌<◌, ◌≤◌, Bool, true, false, ◌&&◌, List, [], ◌∷◌, ◌++◌, length, Option, Some, None, refl, sym, ap, ◌∙◌, subst, arith, length-append}
use Rattle.std.specs.Prelude.{option_map, option_and_then, unwrap_or, Ok}
use Rattle.gv_value.specs.declared.limits.TheConstants.{MOST_BYTES}
use Rattle.gv_value.specs.declared.basic.Basic.TheVariants as basics
use Rattle.gv_value.specs.Bytes.{zeros}
use Rattle.gv_value.specs.Framing.{Part, placed, laid, framed, parts_of, tuple_body, tuple_offsets}
use Rattle.gv_value.specs.Layout.{padding, align_of}
use Rattle.gv_value.specs.Shape.{Shape, Shapes, no_shapes, shape}
use Rattle.gv_value.specs.Spelled.{SpelledWithin, EachSpelled, TupleSpelled, Spelled}
use Rattle.gv_value.specs.Spelling.{fits_within, fits}
use Rattle.gv_value.specs.Tree.{Tree, Trees, no_trees, tree}
use Rattle.gv_value.proofs.Cutting.{length-laid}
use Rattle.gv_value.proofs.Depths.{bounds_depth}
use Rattle.ost_model.specs.Contents.{bytes_shape}
use Rattle.ost_model.specs.Types.{text_shape, dictionary_shape, related_shape, commit_shape}
use Rattle.ost_model.specs.Fields.{CommitView, text_in, time_in, bytes_in, commit_from, commit_in, text_value}
use Rattle.fp_base.specs.declared.rule.Rule.TheVariants as rules
use Rattle.ost_model.specs.Readers.{commit_breaks}
use Rattle.ost_object.specs.declared.error.ObjectError.{ObjectError}
use Rattle.ost_object.specs.declared.error.ObjectError.TheVariants as errors
use Rattle.ost_object.specs.Writes.{HasNoSpelling, Refuses}
use Rattle.gv_value.proofs.Exact.{spells_values}
use Rattle.gv_value.proofs.Unique.{body_short}
use Rattle.ost_object.specs.Values.{time_value, bytes_value}
use Rattle.ost_object.proofs.OneValue.{text_is, time_is, bytes_are}
use Rattle.ost_object.proofs.Rows.{bytes_back}
use Rattle.ost_object.proofs.Written.{twice_8, read, read_is}

abbrev eight : Tree → Tree → Tree → Tree → Tree → Tree → Tree → Tree → Tree
eight a p r s b t d m = Tree.tuple (tree a (tree p (tree r (tree s (tree b (tree t (tree d (tree m no_trees))))))))

-- the value that a commit is, by what it says
abbrev pub commit_value : CommitView → Tree
commit_value c = eight c.metadata (bytes_value c.parent) c.related (text_value c.subject) (text_value c.body) (time_value c.timestamp) (bytes_value c.tree) (bytes_value c.meta)

-- ---- what a commit's members say

pub record CommitParts (a p r s b t d m : Tree) (y : CommitView) : Type 0 where
  pub metadata : a ≡ y.metadata
  pub parent : bytes_in p ≡ Some y.parent
  pub related : r ≡ y.related
  pub subject : text_in s ≡ Some y.subject
  pub body : text_in b ≡ Some y.body
  pub time : time_in t ≡ Some y.timestamp
  pub root : bytes_in d ≡ Some y.tree
  pub meta : bytes_in m ≡ Some y.meta

abbrev commit_with : Tree → Tree → List ℕ → List ℕ → List ℕ → ℕ → List ℕ → List ℕ → CommitView
commit_with a r p s b t d m = record { metadata = a; parent = p; related = r; subject = s; body = b; timestamp = t; tree = d; meta = m }

commit_parts_of : (a p r s b t d m : Tree) (y : CommitView) (op os ob : Option (List ℕ)) (ot : Option ℕ) (od om : Option (List ℕ))
    → bytes_in p ≡ op → text_in s ≡ os → text_in b ≡ ob → time_in t ≡ ot → bytes_in d ≡ od → bytes_in m ≡ om
    → commit_from a r op os ob ot od om ≡ Some y → CommitParts a p r s b t d m y
commit_parts_of a p r s b t d m y None os ob ot od om ep es eb et ed em is = absurd (cc is)
commit_parts_of a p r s b t d m y (Some vp) None ob ot od om ep es eb et ed em is = absurd (cc is)
commit_parts_of a p r s b t d m y (Some vp) (Some vs) None ot od om ep es eb et ed em is = absurd (cc is)
commit_parts_of a p r s b t d m y (Some vp) (Some vs) (Some vb) None od om ep es eb et ed em is = absurd (cc is)
commit_parts_of a p r s b t d m y (Some vp) (Some vs) (Some vb) (Some vt) None om ep es eb et ed em is = absurd (cc is)
commit_parts_of a p r s b t d m y (Some vp) (Some vs) (Some vb) (Some vt) (Some vd) None ep es eb et ed em is = absurd (cc is)
commit_parts_of a p r s b t d m y (Some vp) (Some vs) (Some vb) (Some vt) (Some vd) (Some vm) ep es eb et ed em is =
    let same : commit_with a r vp vs vb vt vd vm ≡ y = cc is in
    record {
      metadata = ap (λ (v : CommitView). v.metadata) same;
      parent = ep ∙ ap (λ (v : CommitView). Some v.parent) same;
      related = ap (λ (v : CommitView). v.related) same;
      subject = es ∙ ap (λ (v : CommitView). Some v.subject) same;
      body = eb ∙ ap (λ (v : CommitView). Some v.body) same;
      time = et ∙ ap (λ (v : CommitView). Some v.timestamp) same;
      root = ed ∙ ap (λ (v : CommitView). Some v.tree) same;
      meta = em ∙ ap (λ (v : CommitView). Some v.meta) same;
    }

sixth : (a b c d e f r : Bool) → a && (b && (c && (d && (e && (f && r))))) ≡ true → f ≡ true
sixth true true true true true true r is = refl
sixth true true true true true false r is = absurd (cc is)
sixth true true true true false f r is = absurd (cc is)
sixth true true true false e f r is = absurd (cc is)
sixth true true false d e f r is = absurd (cc is)
sixth true false c d e f r is = absurd (cc is)
sixth false b c d e f r is = absurd (cc is)

time_fits : (a p r s b t d m : Tree) → fits commit_shape (eight a p r s b t d m) ≡ true → fits_within 63 (Shape.basic basics.Uint64) t ≡ true
time_fits a p r s b t d m fit = sixth (fits_within 63 dictionary_shape a) (fits_within 63 bytes_shape p) (fits_within 63 related_shape r) (fits_within 63 text_shape s)
    (fits_within 63 text_shape b) (fits_within 63 (Shape.basic basics.Uint64) t) (fits_within 63 bytes_shape d && (fits_within 63 bytes_shape m && true)) fit

commit_value_is : (a p r s b t d m : Tree) (y : CommitView) → fits_within 63 (Shape.basic basics.Uint64) t ≡ true → CommitParts a p r s b t d m y → eight a p r s b t d m ≡ commit_value y
commit_value_is a p r s b t d m y fit parts =
    ap (λ (x : Tree). eight x p r s b t d m) parts.metadata
    ∙ ap (λ (x : Tree). eight y.metadata x r s b t d m) (bytes_are p y.parent parts.parent)
    ∙ ap (λ (x : Tree). eight y.metadata (bytes_value y.parent) x s b t d m) parts.related
    ∙ ap (λ (x : Tree). eight y.metadata (bytes_value y.parent) y.related x b t d m) (text_is s y.subject parts.subject)
    ∙ ap (λ (x : Tree). eight y.metadata (bytes_value y.parent) y.related (text_value y.subject) x t d m) (text_is b y.body parts.body)
    ∙ ap (λ (x : Tree). eight y.metadata (bytes_value y.parent) y.related (text_value y.subject) (text_value y.body) x d m) (time_is t y.timestamp fit parts.time)
    ∙ ap (λ (x : Tree). eight y.metadata (bytes_value y.parent) y.related (text_value y.subject) (text_value y.body) (time_value y.timestamp) x m) (bytes_are d y.tree parts.root)
    ∙ ap (λ (x : Tree). eight y.metadata (bytes_value y.parent) y.related (text_value y.subject) (text_value y.body) (time_value y.timestamp) (bytes_value y.tree) x)
    (bytes_are m y.meta parts.meta)

pub commit_is : (y : CommitView) (v : Tree) → fits commit_shape v ≡ true → commit_in v ≡ Some y → v ≡ commit_value y
commit_is y (Tree.tuple (tree a (tree p (tree r (tree s (tree b (tree t (tree d (tree m no_trees))))))))) fit is =
    commit_value_is a p r s b t d m y (time_fits a p r s b t d m fit)
    (commit_parts_of a p r s b t d m y (bytes_in p) (text_in s) (text_in b) (time_in t) (bytes_in d) (bytes_in m) refl refl refl refl refl refl is)
commit_is y _ fit is = absurd (cc is)

pub commit_says : (y : CommitView) → y.timestamp < 2 ^ 64 → commit_in (commit_value y) ≡ Some y
commit_says y h =
    ap (λ (o : Option (List ℕ)). commit_from y.metadata y.related o (Some y.subject) (Some y.body) (time_in (time_value y.timestamp)) (bytes_in (bytes_value y.tree)) (bytes_in (bytes_value y.meta))) (bytes_back y.parent)
    ∙ ap (λ (t : ℕ). commit_from y.metadata y.related (Some y.parent) (Some y.subject) (Some y.body) (Some t) (bytes_in (bytes_value y.tree)) (bytes_in (bytes_value y.meta))) (twice_8 y.timestamp h)
    ∙ ap (λ (o : Option (List ℕ)). commit_from y.metadata y.related (Some y.parent) (Some y.subject) (Some y.body) (Some y.timestamp) o (bytes_in (bytes_value y.meta))) (bytes_back y.tree)
    ∙ ap (λ (o : Option (List ℕ)). commit_from y.metadata y.related (Some y.parent) (Some y.subject) (Some y.body) (Some y.timestamp) (Some y.tree) o) (bytes_back y.meta)

-- ---- its members have bytes where it has

has_part : (body : List ℕ) (part : Part) (others : List Part) → length part.1 ≤ length (laid (placed body part) others)
has_part body part others =
    omega (arith, length-laid (placed body part) others, length-append body (zeros (padding (length body) part.0) ++ part.1), length-append (zeros (padding (length body) part.0)) part.1)

spelled_alone : (t : Shape) (v : Tree) (child : List ℕ) → SpelledWithin 63 t v child → SpelledWithin 64 t v child
spelled_alone t v child h = let both = bounds_depth 63 64 t v child h in both.1 (omega (arith, both.0))

pub record MembersSpelled (a r : Tree) : Type 0 where
  pub metadata : List ℕ
  pub metadata_is : Spelled dictionary_shape a metadata
  pub related : List ℕ
  pub related_is : Spelled related_shape r related

abbrev seven_shapes : Shapes
seven_shapes = shape bytes_shape (shape related_shape (shape text_shape (shape text_shape (shape (Shape.basic basics.Uint64) (shape bytes_shape (shape bytes_shape no_shapes))))))

abbrev five_shapes : Shapes
five_shapes = shape text_shape (shape text_shape (shape (Shape.basic basics.Uint64) (shape bytes_shape (shape bytes_shape no_shapes))))

members_of : (a p r s b t d m : Tree) (bytes : List ℕ) (children : List (List ℕ)) → length bytes ≤ MOST_BYTES
    → EachSpelled (SpelledWithin 63) (shape dictionary_shape seven_shapes) (tree a (tree p (tree r (tree s (tree b (tree t (tree d (tree m no_trees)))))))) children
    → bytes ≡ framed (tuple_body (shape dictionary_shape seven_shapes) children) (tuple_offsets (shape dictionary_shape seven_shapes) children) → MembersSpelled a r
members_of a p r s b t d m bytes [] short each is = absurd each
members_of a p r s b t d m bytes (c0 ∷ []) short each is = absurd each.1
members_of a p r s b t d m bytes (c0 ∷ c1 ∷ []) short each is = absurd each.1.1
members_of a p r s b t d m bytes (c0 ∷ c1 ∷ c2 ∷ cs) short each is =
    let body = tuple_body (shape dictionary_shape seven_shapes) (c0 ∷ c1 ∷ c2 ∷ cs) in
    let offsets = tuple_offsets (shape dictionary_shape seven_shapes) (c0 ∷ c1 ∷ c2 ∷ cs) in
    let whole : length bytes ≡ length (framed body offsets) = ap length is in
    let inside : length body ≤ length bytes = omega (arith, whole, body_short body offsets) in
    let first : length c0 ≤ length body = has_part [] (align_of dictionary_shape, c0) (parts_of seven_shapes (c1 ∷ c2 ∷ cs)) in
    let third : length c2 ≤ length body =
    has_part (placed (placed [] (align_of dictionary_shape, c0)) (align_of bytes_shape, c1)) (align_of related_shape, c2) (parts_of five_shapes cs) in
    record {
      metadata = c0;
      metadata_is = record { type = refl; value = spelled_alone dictionary_shape a c0 each.0; short = omega (arith, short, inside, first) };
      related = c2;
      related_is = record { type = refl; value = spelled_alone related_shape r c2 each.1.1.0; short = omega (arith, short, inside, third) };
    }

pub members_spelled : (y : CommitView) (bytes : List ℕ) → Spelled commit_shape (commit_value y) bytes → MembersSpelled y.metadata y.related
members_spelled y bytes h = members_of y.metadata (bytes_value y.parent) y.related (text_value y.subject) (text_value y.body) (time_value y.timestamp) (bytes_value y.tree) (bytes_value y.meta)
    bytes h.value.0 h.short h.value.1 h.value.2.1

members_read : (y : CommitView) (bytes : List ℕ) → read commit_shape commit_in commit_breaks bytes ≡ Ok y → MembersSpelled y.metadata y.related
members_read y bytes e =
    let r = read_is commit_shape commit_in commit_breaks bytes y e in
    let fit : fits commit_shape r.value ≡ true = ((spells_values commit_shape r.value bytes).0 r.spelled).0 in
    members_spelled y bytes (subst (λ (w : Tree). Spelled commit_shape w bytes) (commit_is y r.value fit r.says) r.spelled)

pub no_metadata : (y : CommitView) (e : ObjectError) → commit_breaks y ≡ None → HasNoSpelling e dictionary_shape y.metadata → Refuses (read commit_shape commit_in commit_breaks) commit_breaks e y
no_metadata y (errors.Malformed rule) good h = (h.0 ∙ ap (λ r. unwrap_or r rules.Value) (sym good), λ bytes e. let m = members_read y bytes e in h.1 m.metadata m.metadata_is)
no_metadata y errors.NoMemory good h = tt

pub no_related : (y : CommitView) (e : ObjectError) → commit_breaks y ≡ None → HasNoSpelling e related_shape y.related → Refuses (read commit_shape commit_in commit_breaks) commit_breaks e y
no_related y (errors.Malformed rule) good h = (h.0 ∙ ap (λ r. unwrap_or r rules.Value) (sym good), λ bytes e. let m = members_read y bytes e in h.1 m.related m.related_is)
no_related y errors.NoMemory good h = tt

pub same_members : (s b t a p r d m a' p' r' d' m' : Tree) → a ≡ a' → p ≡ p' → r ≡ r' → d ≡ d' → m ≡ m' → eight a p r s b t d m ≡ eight a' p' r' s b t d' m'
same_members s b t a p r d m a' p' r' d' m' ea ep er ed em =
    ap (λ (x : Tree). eight x p r s b t d m) ea ∙ ap (λ (x : Tree). eight a' x r s b t d m) ep ∙ ap (λ (x : Tree). eight a' p' x s b t d m) er
    ∙ ap (λ (x : Tree). eight a' p' r' s b t x m) ed ∙ ap (λ (x : Tree). eight a' p' r' s b t d' x) em
