-- Dirtrees and dirmetas that are read from the bytes of their parts.
use Rattle.std.proofs.Common.{◌≡◌, ◌⊎◌, inl, inr, ℕ, ◌<◌, ◌≤◌, ◌&&◌, Bool, true, false, List, [], ◌∷◌, length, Option, Some, None, option_map, option_and_then, refl, sym, ap, ap₂, ◌∙◌, subst, arith}
use denote.Ref.{Bor}
use Rattle.std.specs.Prelude.{if◌then◌else◌, Err}
use Rattle.std.specs.Option.{is_some, IsSome}
use Rattle.std.specs.List.{list_all}
use Rattle.gv_value.specs.Bytes.{AllBelow}
use Rattle.gv_value.specs.Reading.{value_of}
use Rattle.gv_value.specs.Shape.{Shape}
use Rattle.gv_value.specs.Tree.{Tree, tuple}
use Rattle.gv_decode.specs.Decoded.{children_of, slices}
use Rattle.gv_decode.proofs.Short.{Each, children-each, bytes-of-parts}
use Rattle.ost_model.specs.Contents.{number_shape, bytes_shape}
use Rattle.ost_model.specs.Types.{text_shape, related_shape, dirs_shape}
use Rattle.ost_model.specs.Fields.{FileRow, DirRow, TreeView, bytes_in, number_in, file_in, dir_in, tree_in}
use Rattle.ost_model.specs.Readers.{is_long, has_long, has_both_long, first_broken, name_tests, tree_breaks, kept, judged}
use Rattle.fp_base.specs.declared.rule.Rule.{Rule}
use Rattle.fp_base.specs.declared.rule.Rule.TheVariants as rules
use Rattle.ost_object.specs.declared.error.ObjectError.{ObjectError}
use Rattle.ost_object.specs.declared.error.ObjectError.TheVariants as errors
use Rattle.ost_object.specs.Answers.{only, passing, Misses, Breaks}
use Rattle.ost_object.specs.Parts.{each_tree, AreEach, file_shapes, dir_shapes, rows_shapes, meta_shapes, files_in, dirs_in}
use Rattle.ost_object.specs.Views.{tree_at, text_at}
use Rattle.ost_object.proofs.ByParts.{tuple-parts, tuple-there, array-said, text-said, bytes-said}
use Rattle.ost_object.proofs.Kept.{some-value, tree_at-is, tree_at-none}
use Rattle.ost_object.proofs.Trees.{only_none, only_some, file_digests, dir_digests, names_left, misses_breaks}

-- ---- how many members there are

pub not-four : (ms : List (Bor (List ℕ))) → AreEach meta_shapes (slices ms) → (length ms < 4) ⊎ (5 ≤ length ms) → ⊥
not-four [] h o = h
not-four (a ∷ []) h o = h.1
not-four (a ∷ b ∷ []) h o = h.1.1
not-four (a ∷ b ∷ c ∷ []) h o = h.1.1.1
not-four (a ∷ b ∷ c ∷ d ∷ []) h o = elim o [ inl less ↦ omega (arith, less) | inr more ↦ omega (arith, more) ]
not-four (a ∷ b ∷ c ∷ d ∷ e ∷ ms) h o = h.1.1.1.1

-- ---- a file

abbrev pub file_with : List ℕ → List ℕ → FileRow
file_with n d = record { name = n; digest = d }

if-none : {A : Type 0} (b : Bool) (x : A) → (if b then Some x else None) ≡ None → b ≡ false
if-none true x e = absurd (cc e)
if-none false x e = refl

if-some : {A : Type 0} (b : Bool) (x y : A) → (if b then Some x else None) ≡ Some y → (b ≡ true) × (x ≡ y)
if-some true x y e = (refl, cc e)
if-some false x y e = absurd (cc e)

module _ (n d : List ℕ) (name : IsSome (value_of text_shape n)) (digest : IsSome (value_of bytes_shape d)) (below : AllBelow 256 d) where
  file-parts : file_in (tuple (each_tree file_shapes (n ∷ d ∷ []))) ≡ Some (file_with (text_at n) d)
  file-parts =
      ap₂ (λ (a b : Option (List ℕ)). option_and_then (λ n. option_map (λ d. file_with n d) b) a) (text-said n name) (bytes-said d below digest)

  pub file-passes : (found : List ℕ) → (if is_long d then Some d else None) ≡ Some found → option_and_then (passing has_long) (file_in (tuple (each_tree file_shapes (n ∷ d ∷ [])))) ≡ Some (file_with (text_at n) found)
  unfolding passing
  file-passes found e =
      let long = if-some (is_long d) d found e in
      ap (option_and_then (passing has_long)) file-parts ∙ ap (λ (b : Bool). if b then Some (file_with (text_at n) d) else None) long.0
      ∙ ap (λ (x : List ℕ). Some (file_with (text_at n) x)) long.1

  file-short : (if is_long d then Some d else None) ≡ None → option_and_then (passing has_long) (file_in (tuple (each_tree file_shapes (n ∷ d ∷ [])))) ≡ None
  unfolding passing
  file-short e = ap (option_and_then (passing has_long)) file-parts ∙ ap (λ (b : Bool). if b then Some (file_with (text_at n) d) else None) (if-none (is_long d) d e)

  pub file-misses : (rule : Rule) (x : ObjectError) → Misses rule x (if is_long d then Some d else None) → Misses rule x (option_and_then (passing has_long) (file_in (tuple (each_tree file_shapes (n ∷ d ∷ [])))))
  file-misses rule (errors.Malformed broken) h = (h.0, file-short h.1)
  file-misses rule errors.NoMemory h = tt

file-of : (cs : List (List ℕ)) → AreEach file_shapes cs → Each (AllBelow 256) cs → IsSome (file_in (tuple (each_tree file_shapes cs)))
file-of [] h below = absurd h
file-of (n ∷ []) h below = absurd h.1
file-of (n ∷ d ∷ []) h below = ap is_some (file-parts n d h.0 h.1.0 below.1.0)
file-of (n ∷ d ∷ c ∷ cs) h below = absurd h.1.1

file-said : (bytes : List ℕ) → AllBelow 256 bytes → IsSome (value_of (Shape.tuple file_shapes) bytes) → IsSome (file_in (tree_at (Shape.tuple file_shapes) bytes))
file-said bytes below some =
    let cs = some-value (children_of (Shape.tuple file_shapes) bytes) (tuple-there file_shapes bytes some) in
    let parts = tuple-parts file_shapes bytes cs.0 refl some cs.1 in
    let each = children-each (AllBelow 256) bytes-of-parts (Shape.tuple file_shapes) bytes cs.0 below cs.1 in
    ap (λ (v : Tree). is_some (file_in v)) parts.tree ∙ file-of cs.0 parts.each each

-- ---- a directory

abbrev pub dir_with : List ℕ → List ℕ → List ℕ → DirRow
dir_with n t m = record { name = n; tree = t; meta = m }

abbrev if_both : Bool → DirRow → Option DirRow
if_both b row = if b then Some row else None

module _ (n t m : List ℕ) (name : IsSome (value_of text_shape n)) (root : IsSome (value_of bytes_shape t)) (meta : IsSome (value_of bytes_shape m)) (below : AllBelow 256 t) (also : AllBelow 256 m) where
  dir-parts : dir_in (tuple (each_tree dir_shapes (n ∷ t ∷ m ∷ []))) ≡ Some (dir_with (text_at n) t m)
  dir-parts =
      ap (λ (a : Option (List ℕ)). option_and_then (λ n. option_and_then (λ t. option_map (λ m. dir_with n t m) (bytes_in (tree_at bytes_shape m))) (bytes_in (tree_at bytes_shape t))) a) (text-said n name)
      ∙ ap₂ (λ (b c : Option (List ℕ)). option_and_then (λ t. option_map (λ m. dir_with (text_at n) t m) c) b) (bytes-said t below root) (bytes-said m also meta)

  dir-judged : (b : Bool) → is_long t && is_long m ≡ b → option_and_then (passing has_both_long) (dir_in (tuple (each_tree dir_shapes (n ∷ t ∷ m ∷ [])))) ≡ if_both b (dir_with (text_at n) t m)
  unfolding passing
  dir-judged b e = ap (option_and_then (passing has_both_long)) dir-parts ∙ ap (λ (x : Bool). if_both x (dir_with (text_at n) t m)) e

  pub dir-passes : (x y : List ℕ) → (if is_long t then Some t else None) ≡ Some x → (if is_long m then Some m else None) ≡ Some y →
      option_and_then (passing has_both_long) (dir_in (tuple (each_tree dir_shapes (n ∷ t ∷ m ∷ [])))) ≡ Some (dir_with (text_at n) x y)
  dir-passes x y e f =
      let first = if-some (is_long t) t x e in
      let second = if-some (is_long m) m y f in
      dir-judged true (ap₂ (λ (a b : Bool). a && b) first.0 second.0) ∙ ap₂ (λ (a b : List ℕ). Some (dir_with (text_at n) a b)) first.1 second.1

  both-false : (a : Bool) → a && false ≡ false
  both-false true = refl
  both-false false = refl

  pub tree-misses : (rule : Rule) (x : ObjectError) → Misses rule x (if is_long t then Some t else None) → Misses rule x (option_and_then (passing has_both_long) (dir_in (tuple (each_tree dir_shapes (n ∷ t ∷ m ∷ [])))))
  tree-misses rule (errors.Malformed broken) h = (h.0, dir-judged false (ap (λ (a : Bool). a && is_long m) (if-none (is_long t) t h.1)))
  tree-misses rule errors.NoMemory h = tt

  pub meta-misses : (rule : Rule) (x : ObjectError) → Misses rule x (if is_long m then Some m else None) → Misses rule x (option_and_then (passing has_both_long) (dir_in (tuple (each_tree dir_shapes (n ∷ t ∷ m ∷ [])))))
  meta-misses rule (errors.Malformed broken) h = (h.0, dir-judged false (ap (λ (b : Bool). is_long t && b) (if-none (is_long m) m h.1) ∙ both-false (is_long t)))
  meta-misses rule errors.NoMemory h = tt

dir-of : (cs : List (List ℕ)) → AreEach dir_shapes cs → Each (AllBelow 256) cs → IsSome (dir_in (tuple (each_tree dir_shapes cs)))
dir-of [] h below = absurd h
dir-of (n ∷ []) h below = absurd h.1
dir-of (n ∷ t ∷ []) h below = absurd h.1.1
dir-of (n ∷ t ∷ m ∷ []) h below = ap is_some (dir-parts n t m h.0 h.1.0 h.1.1.0 below.1.0 below.1.1.0)
dir-of (n ∷ t ∷ m ∷ c ∷ cs) h below = absurd h.1.1.1

dir-said : (bytes : List ℕ) → AllBelow 256 bytes → IsSome (value_of (Shape.tuple dir_shapes) bytes) → IsSome (dir_in (tree_at (Shape.tuple dir_shapes) bytes))
dir-said bytes below some =
    let cs = some-value (children_of (Shape.tuple dir_shapes) bytes) (tuple-there dir_shapes bytes some) in
    let parts = tuple-parts dir_shapes bytes cs.0 refl some cs.1 in
    let each = children-each (AllBelow 256) bytes-of-parts (Shape.tuple dir_shapes) bytes cs.0 below cs.1 in
    ap (λ (v : Tree). is_some (dir_in v)) parts.tree ∙ dir-of cs.0 parts.each each

-- ---- a dirtree

abbrev tree_with : List FileRow → List DirRow → TreeView
tree_with fs ds = record { files = fs; dirs = ds }

abbrev tree_of : List (List ℕ) → Tree
tree_of cs = tuple (each_tree rows_shapes cs)

module _ (f d : List ℕ) (files : IsSome (value_of related_shape f)) (dirs : IsSome (value_of dirs_shape d)) (below : AllBelow 256 f) (also : AllBelow 256 d) where
  said-files : (xs : List FileRow) × (files_in (tree_at related_shape f) ≡ Some xs)
  said-files = array-said file_in (Shape.tuple file_shapes) file-said f below refl files

  said-dirs : (xs : List DirRow) × (dirs_in (tree_at dirs_shape d) ≡ Some xs)
  said-dirs = array-said dir_in (Shape.tuple dir_shapes) dir-said d also refl dirs

  is-judged : judged tree_breaks (tree_in (tree_of (f ∷ d ∷ []))) ≡ kept (tree_breaks (tree_with said-files.0 said-dirs.0)) (tree_with said-files.0 said-dirs.0)
  is-judged =
      ap₂ (λ (a : Option (List FileRow)) (b : Option (List DirRow)). judged tree_breaks (option_and_then (λ fs. option_map (λ ds. tree_with fs ds) b) a)) said-files.1 said-dirs.1

  -- a file's digest is of another length
  pub files-break : (e : ObjectError) → Misses rules.Digest e (option_and_then (only has_long) (files_in (tree_at related_shape f))) → Breaks e (judged tree_breaks (tree_in (tree_of (f ∷ d ∷ []))))
  files-break e h =
      subst (Breaks e) (sym is-judged)
      (misses_breaks e (only has_long said-files.0) _
      (subst (Misses rules.Digest e) (ap (option_and_then (only has_long)) said-files.1) h)
      (λ none. file_digests (tree_with said-files.0 said-dirs.0) (only_none has_long said-files.0 none)))

  module _ (fs : List FileRow) (long : option_and_then (only has_long) (files_in (tree_at related_shape f)) ≡ Some fs) where
    files-long : (list_all has_long said-files.0 ≡ true) × (said-files.0 ≡ fs)
    files-long = only_some has_long said-files.0 fs (sym (ap (option_and_then (only has_long)) said-files.1) ∙ long)

    -- a directory's digest is
    pub dirs-break : (e : ObjectError) → Misses rules.Digest e (option_and_then (only has_both_long) (dirs_in (tree_at dirs_shape d))) → Breaks e (judged tree_breaks (tree_in (tree_of (f ∷ d ∷ []))))
    dirs-break e h =
        subst (Breaks e) (sym is-judged)
        (misses_breaks e (only has_both_long said-dirs.0) _
        (subst (Misses rules.Digest e) (ap (option_and_then (only has_both_long)) said-dirs.1) h)
        (λ none. dir_digests (tree_with said-files.0 said-dirs.0) files-long.0 (only_none has_both_long said-dirs.0 none)))

    -- all of them have 32 bytes
    pub names-decide : (ds : List DirRow) → option_and_then (only has_both_long) (dirs_in (tree_at dirs_shape d)) ≡ Some ds →
        judged tree_breaks (tree_in (tree_of (f ∷ d ∷ []))) ≡ kept (first_broken (name_tests (tree_with fs ds))) (tree_with fs ds)
    names-decide ds also_long =
        let dirs_long = only_some has_both_long said-dirs.0 ds (sym (ap (option_and_then (only has_both_long)) said-dirs.1) ∙ also_long) in
        is-judged ∙ ap (λ (r : Option Rule). kept r (tree_with said-files.0 said-dirs.0)) (names_left (tree_with said-files.0 said-dirs.0) files-long.0 dirs_long.0)
        ∙ ap₂ (λ (a : List FileRow) (b : List DirRow). kept (first_broken (name_tests (tree_with a b))) (tree_with a b)) files-long.1 dirs_long.1

-- ---- numbers

pub number-at : (bytes : List ℕ) → number_in (tree_at number_shape bytes) ≡ option_and_then number_in (value_of number_shape bytes)
number-at bytes = by (value_of number_shape bytes) refl
  where
    by : (o : Option Tree) → value_of number_shape bytes ≡ o → number_in (tree_at number_shape bytes) ≡ option_and_then number_in (value_of number_shape bytes)
    by None e = ap number_in (tree_at-none number_shape bytes e) ∙ sym (ap (option_and_then number_in) e)
    by (Some v) e = ap number_in (tree_at-is number_shape bytes v e) ∙ sym (ap (option_and_then number_in) e)

number-nothing : (bytes : List ℕ) → value_of number_shape bytes ≡ None → number_in (tree_at number_shape bytes) ≡ None
number-nothing bytes e = number-at bytes ∙ ap (option_and_then number_in) e

pub number-misses : (rule : Rule) (e : ObjectError) (bytes : List ℕ) → Misses rule e (value_of number_shape bytes) → Misses rule e (number_in (tree_at number_shape bytes))
number-misses rule (errors.Malformed broken) bytes h = (h.0, number-nothing bytes h.1)
number-misses rule errors.NoMemory bytes h = tt

-- ---- what is judged

pub missed-judged : {A : Type 0} (breaks : A → Option Rule) (e : ObjectError) (o : Option A) → Misses rules.Value e o → Breaks e (judged breaks o)
missed-judged breaks (errors.Malformed rule) o h = ap (judged breaks) h.1 ∙ ap (λ (r : Rule). Err r) (sym h.0)
missed-judged breaks errors.NoMemory o h = tt

-- ---- bytes that are no value

pub nothing-judged : {A : Type 0} (into : Tree → Option A) (breaks : A → Option Rule) (e : ObjectError) (o : Option Tree) → Misses rules.Value e o → Breaks e (judged breaks (option_and_then into o))
nothing-judged into breaks (errors.Malformed rule) o h = ap (λ (x : Option Tree). judged breaks (option_and_then into x)) h.1 ∙ ap (λ (r : Rule). Err r) (sym h.0)
nothing-judged into breaks errors.NoMemory o h = tt
