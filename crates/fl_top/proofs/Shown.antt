-- What the texts of objects are.
use Rattle.std.proofs.Common.{◌≡◌, ℕ, ◌<◌, ◌≤◌, List, [], ◌∷◌, ◌++◌, Bool, true, false, leb, length, Option, Some, None, Result, Ok, Err, refl, sym, ◌∙◌, ap, subst, rules}
use Rattle.std.specs.Prelude.{codes, IsSome}
use Rattle.std.specs.Option.{is_some}
use Rattle.std.proofs.lemmas.Bool.{false≢true, leb-true, leb-false}
use Rattle.fp_name.specs.Hex.{hex, is_digest}
use Rattle.fp_small.specs.declared.refusal.Refusal.TheVariants.{MalformedValue}
use Rattle.gv_value.specs.declared.limits.TheConstants.{MOST_BYTES}
use Rattle.gv_value.specs.Shape.{Shape}
use Rattle.gv_value.specs.Tree.{Tree}
use Rattle.gv_value.specs.TypeText.{type_of}
use Rattle.gv_value.specs.Reading.{value_of}
use Rattle.gv_decode.specs.Decoded.{Passes}
use Rattle.gv_decode.specs.declared.error.DecodeError.{DecodeError}
use Rattle.gv_decode.specs.declared.error.DecodeError.TheVariants.{TooLong}
use Rattle.fp_base.specs.declared.object.ObjKind.{ObjKind}
use Rattle.fp_base.specs.declared.object.ObjKind.TheVariants as kinds
use Rattle.fp_base.specs.declared.rule.Rule.{Rule}
use Rattle.fp_base.specs.Objects.{kind_text}
use Rattle.ost_model.specs.Contents.{meta_digest}
use Rattle.ost_model.specs.Fields.{CommitView, TreeView, MetaView}
use Rattle.ost_model.specs.Readers.{commit_read, tree_read, meta_read}
use Rattle.fl_change.specs.Answer.{Answer, text_answer, refusal_answer}
use Rattle.fl_top.specs.Answer.{by_read, by_value, by_type, commit_shown, tree_shown, meta_shown, value_shown}
use Rattle.ost_object.specs.Answers.{Breaks}
use Rattle.ost_object.specs.declared.error.ObjectError.{ObjectError}
use Rattle.ost_object.specs.declared.error.ObjectError.TheVariants.{Malformed}
use Rattle.ost_object.specs.declared.error.ObjectError.TheVariants as object
use Rattle.fl_top.specs.Ends.{Prints, end_of_object}
use Rattle.fl_top.specs.Objects.{head, parent_text, commit_lines, tree_lines, meta_lines, normal_line}
use Rattle.fl_change.specs.declared.end.RunEnd.{RunEnd}

read_told : {A : Type 0} (digest text : List ℕ) (kind : ObjKind) (lines : A → List ℕ) (read : Result A Rule) (a : A) → read ≡ Ok a → text ≡ head digest (kind_text kind) ++ lines a → by_read digest kind lines read ≡ text_answer text
read_told digest text kind lines read a is said = ap (by_read digest kind lines) is ∙ ap text_answer (sym said)

-- what bytes with this digest that don't read end with
read_bad : {A : Type 0} (digest : List ℕ) (kind : ObjKind) (lines : A → List ℕ) (read : Result A Rule) (error : ObjectError) → Breaks error read → Prints (by_read digest kind lines read) (Err (end_of_object digest kind error))
read_bad digest kind lines read (Malformed rule) is = ap (by_read digest kind lines) is
read_bad digest kind lines read object.NoMemory is = tt

-- what is shown ends so
pub ending : (a : Answer) {e end : RunEnd} → Prints a (Err e) → e ≡ end → Prints a (Err end)
ending a prints is = subst (λ (x : RunEnd). Prints a (Err x)) is prints

pub commit_told : (bytes text : List ℕ) (v : CommitView) → commit_read bytes ≡ Ok v → text ≡ head (meta_digest bytes) (codes "commit") ++ commit_lines v → commit_shown bytes ≡ text_answer text
unfolding commit_shown
commit_told bytes text v is said = read_told (meta_digest bytes) text kinds.Commit commit_lines (commit_read bytes) v is said

pub commit_bad : (bytes : List ℕ) (error : ObjectError) → Breaks error (commit_read bytes) → Prints (commit_shown bytes) (Err (end_of_object (meta_digest bytes) kinds.Commit error))
unfolding commit_shown
commit_bad bytes error is = read_bad (meta_digest bytes) kinds.Commit commit_lines (commit_read bytes) error is

pub tree_told : (bytes text : List ℕ) (v : TreeView) → tree_read bytes ≡ Ok v → text ≡ head (meta_digest bytes) (codes "dirtree") ++ tree_lines v → tree_shown bytes ≡ text_answer text
unfolding tree_shown
tree_told bytes text v is said = read_told (meta_digest bytes) text kinds.DirTree tree_lines (tree_read bytes) v is said

pub tree_bad : (bytes : List ℕ) (error : ObjectError) → Breaks error (tree_read bytes) → Prints (tree_shown bytes) (Err (end_of_object (meta_digest bytes) kinds.DirTree error))
unfolding tree_shown
tree_bad bytes error is = read_bad (meta_digest bytes) kinds.DirTree tree_lines (tree_read bytes) error is

pub meta_told : (bytes text : List ℕ) (v : MetaView) → meta_read bytes ≡ Ok v → text ≡ head (meta_digest bytes) (codes "dirmeta") ++ meta_lines v → meta_shown bytes ≡ text_answer text
unfolding meta_shown
meta_told bytes text v is said = read_told (meta_digest bytes) text kinds.DirMeta meta_lines (meta_read bytes) v is said

pub meta_bad : (bytes : List ℕ) (error : ObjectError) → Breaks error (meta_read bytes) → Prints (meta_shown bytes) (Err (end_of_object (meta_digest bytes) kinds.DirMeta error))
unfolding meta_shown
meta_bad bytes error is = read_bad (meta_digest bytes) kinds.DirMeta meta_lines (meta_read bytes) error is

-- ---- values

some_value : (o : Option Tree) (bytes : List ℕ) → is_some o ≡ true → by_value bytes o ≡ text_answer (normal_line (length bytes))
some_value None bytes h = absurd (false≢true h)
some_value (Some value) bytes h = refl

no_value : (o : Option Tree) (bytes : List ℕ) → is_some o ≡ false → by_value bytes o ≡ refusal_answer (MalformedValue (meta_digest bytes))
no_value None bytes h = refl
no_value (Some value) bytes h = absurd (false≢true (sym h))

pub value_told : (type bytes text : List ℕ) (of : Shape) → type_of type ≡ Some of → is_some (value_of of bytes) ≡ true → text ≡ normal_line (length bytes) → value_shown type bytes ≡ text_answer text
unfolding value_shown
value_told type bytes text of is normal said = ap (λ (o : Option Shape). by_type o bytes) is ∙ some_value (value_of of bytes) bytes normal ∙ ap text_answer (sym said)

pub value_bad : (type bytes : List ℕ) (of : Shape) → type_of type ≡ Some of → is_some (value_of of bytes) ≡ false → value_shown type bytes ≡ refusal_answer (MalformedValue (meta_digest bytes))
unfolding value_shown
value_bad type bytes of is normal = ap (λ (o : Option Shape). by_type o bytes) is ∙ no_value (value_of of bytes) bytes normal

-- where something is read there is a value
is_there : (o : Option Tree) → IsSome o → true ≡ is_some o
is_there None some = absurd (search rules)
is_there (Some value) some = refl

-- what was checked is a value
pub some_checked : (of : Shape) (bytes : List ℕ) (r : Result (Unit {0}) DecodeError) → r ≡ Ok tt → (MOST_BYTES < length bytes → r ≡ Err TooLong) → (length bytes ≤ MOST_BYTES → Passes r (value_of of bytes)) → true ≡ is_some (value_of of bytes)
some_checked of bytes r is long passes = go (leb (length bytes) MOST_BYTES) refl
  where
    go : (b : Bool) → leb (length bytes) MOST_BYTES ≡ b → true ≡ is_some (value_of of bytes)
    go true few = is_there (value_of of bytes) (subst (λ (x : Result (Unit {0}) DecodeError). Passes x (value_of of bytes)) is (passes (leb-true (length bytes) MOST_BYTES few)))
    go false many = absurd (let both : Ok tt ≡ Err TooLong = sym is ∙ long (leb-false (length bytes) MOST_BYTES many) in cc both)

-- ---- a parent

pub some_parent : (digest : List ℕ) → is_digest digest ≡ true → parent_text digest ≡ hex digest
some_parent [] h = absurd (cc h)
some_parent (b ∷ bytes) h = refl
