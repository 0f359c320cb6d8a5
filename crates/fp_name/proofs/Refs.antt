-- The text of a ref and the ref of a text.
use Rattle.std.proofs.Common.{◌≡◌, ◌∷◌, [], ◌++◌, ℕ, Bool, true, false, ◌&&◌, cond, List, Option, Some, None, Result, Ok, Err, codes, option_and_then, unwrap_or, lit<, refl, sym, ap, ◌∙◌, ◌≢◌}
use Rattle.std.specs.declared.cmp.Ordering.{Ordering}
use Rattle.std.specs.declared.cmp.Ordering.TheVariants.{Equal}
use Rattle.std.specs.Cmp.{Equal-is}
use Rattle.std.specs.Cmp.Lexicographic.{slice_cmp}
use Rattle.std.specs.Ordering.{nat_cmp, is_eq}
use Rattle.std.proofs.lemmas.Map.Text.{is_eq-slice_cmp}
use Rattle.std.specs.List.{slice_split, join_with_byte, All}
use Rattle.std.specs.Option.{IsSome, is_some}
use Rattle.std.specs.Result.{IfOk, OnOk}
use Rattle.fp_name.specs.declared.fault.NameError.{NameError}
use Rattle.fp_name.specs.declared.fault.NameError.TheVariants.{Bad}
use Rattle.std.specs.Str.{bytes_eq, IsAscii, IsUtf8}
use Rattle.std.proofs.lemmas.Str.{IsUtf8-from_ascii, IsAscii-append}
use Rattle.std.proofs.lemmas.Str.Ascii.{IsAscii-cons}
use Rattle.std.proofs.lemmas.Bool.{and_parts}
use Rattle.std.proofs.lemmas.Option.{same_Some, option_and_then_some, cond_some}
use Rattle.std.proofs.lemmas.Slice.Eq.{bytes_eq-Decides}
use Rattle.std.proofs.lemmas.List.Splits.{slice_split_none, slice_split_at, join_with_byte-slice_split}
use Rattle.fp_base.proofs.Texts.{bytes_eq-false}
use Rattle.fp_name.specs.declared.kind.RefKind.{RefKind}
use Rattle.fp_name.specs.declared.kind.RefKind.TheVariants.{App, Runtime}
use Rattle.fp_name.specs.Kinds.{kind_word, kind_of}
use Rattle.fp_name.specs.Bytes.{is_slash}
use Rattle.fp_name.specs.Grammar.{is_id, is_arch, is_branch}
use Rattle.fp_name.specs.Refs.{Ref, ref_with, is_ref, ref_text, remainder_kind, of_parts, parts_of, if_ref, ref_of, ref_at}
use Rattle.fp_name.proofs.Bytes.{dotted_id, dotted_arch, dotted_branch, Ascii-from_dotted, NoSlash-from_dotted}

-- the parts of a good ref, each in its grammar
pub record AreParts (r : Ref) : Type 0 where
  pub id : is_id r.id ≡ true
  pub arch : is_arch r.arch ≡ true
  pub branch : is_branch r.branch ≡ true

pub parts_good : (r : Ref) → is_ref r ≡ true → AreParts r
parts_good r h =
    let first = and_parts (is_id r.id) (is_arch r.arch && is_branch r.branch) h in
    let others = and_parts (is_arch r.arch) (is_branch r.branch) first.1 in
    record { id = first.0; arch = others.0; branch = others.1 }

-- ---- from the ref to its text and back

pub kind_back : (kind : RefKind) → kind_of (kind_word kind) ≡ Some kind
kind_back App = refl
kind_back Runtime = refl

word_ascii : (kind : RefKind) → IsAscii (kind_word kind)
word_ascii App = Ascii-from_dotted (kind_word App) refl
word_ascii Runtime = Ascii-from_dotted (kind_word Runtime) refl

word_no_slash : (kind : RefKind) → All (λ b. is_slash b ≡ false) (kind_word kind)
word_no_slash App = NoSlash-from_dotted (kind_word App) refl
word_no_slash Runtime = NoSlash-from_dotted (kind_word Runtime) refl

-- parts without slashes come back
cut_back : (kind : RefKind) (id arch branch : List ℕ)
    → All (λ b. is_slash b ≡ false) id → All (λ b. is_slash b ≡ false) arch → All (λ b. is_slash b ≡ false) branch
    → slice_split is_slash (ref_text (ref_with kind id arch branch)) ≡ kind_word kind ∷ id ∷ arch ∷ branch ∷ []
cut_back kind id arch branch i a b =
    slice_split_at is_slash (kind_word kind) 47 _ (word_no_slash kind) refl
    ∙ ap (λ ps. kind_word kind ∷ ps) (slice_split_at is_slash id 47 _ i refl
    ∙ ap (λ ps. id ∷ ps) (slice_split_at is_slash arch 47 branch a refl
    ∙ ap (λ ps. arch ∷ ps) (slice_split_none is_slash branch b)))

pub parts_back : (r : Ref) → AreParts r → parts_of (ref_text r) ≡ Some r
parts_back r good =
    ap of_parts (cut_back r.kind r.id r.arch r.branch (NoSlash-from_dotted r.id (dotted_id r.id good.id)) (NoSlash-from_dotted r.arch (dotted_arch r.arch good.arch)) (NoSlash-from_dotted r.branch (dotted_branch r.branch good.branch)))
    ∙ ap (option_and_then (remainder_kind (r.id ∷ r.arch ∷ r.branch ∷ []))) (kind_back r.kind)

-- The text of a good ref reads as it.
pub ref_of-ref_text : (r : Ref) → is_ref r ≡ true → ref_of (ref_text r) ≡ Some r
unfolding ref_of
ref_of-ref_text r good = ap (option_and_then if_ref) (parts_back r (parts_good r good)) ∙ rw good refl

-- ---- from a text to the ref and back

remainder_is : (parts : List (List ℕ)) (kind : RefKind) (r : Ref) → remainder_kind parts kind ≡ Some r → (kind ≡ r.kind) × (parts ≡ r.id ∷ r.arch ∷ r.branch ∷ [])
remainder_is [] kind r h = cc h
remainder_is (id ∷ []) kind r h = cc h
remainder_is (id ∷ arch ∷ []) kind r h = cc h
remainder_is (id ∷ arch ∷ branch ∷ []) kind r h =
    let e : ref_with kind id arch branch ≡ r = cc h in
    (ap (λ (s : Ref). s.kind) e, ap (λ (s : Ref). s.id ∷ s.arch ∷ s.branch ∷ []) e)
remainder_is (id ∷ arch ∷ branch ∷ more ∷ parts) kind r h = cc h

word_is : (a b : Bool) (word : List ℕ) (kind : RefKind) → bytes_eq word (codes "app") ≡ a → bytes_eq word (codes "runtime") ≡ b
    → cond a (Some App) (cond b (Some Runtime) None) ≡ Some kind → word ≡ kind_word kind
word_is true b word kind app runtime h = (bytes_eq-Decides word (codes "app")).0 app ∙ ap kind_word (same_Some App kind h)
word_is false true word kind app runtime h = (bytes_eq-Decides word (codes "runtime")).0 runtime ∙ ap kind_word (same_Some Runtime kind h)
word_is false false word kind app runtime h = cc h

kind_is : (word : List ℕ) (kind : RefKind) → kind_of word ≡ Some kind → word ≡ kind_word kind
kind_is word kind h = word_is (bytes_eq word (codes "app")) (bytes_eq word (codes "runtime")) word kind refl refl h

pub parts_are : (parts : List (List ℕ)) (r : Ref) → of_parts parts ≡ Some r → parts ≡ kind_word r.kind ∷ r.id ∷ r.arch ∷ r.branch ∷ []
parts_are [] r h = cc h
parts_are (word ∷ parts) r h =
    option_and_then_some (remainder_kind parts) (kind_of word) r h (λ kind is_kind is_ref.
    let remainder = remainder_is parts kind r is_ref in
    ap (λ w. w ∷ parts) (kind_is word kind is_kind ∙ ap kind_word remainder.0) ∙ ap (λ ps. kind_word r.kind ∷ ps) remainder.1)

-- The text that reads as a ref is the ref's text, and the ref is good.
pub ref_of-some : (text : List ℕ) (r : Ref) → ref_of text ≡ Some r → (text ≡ ref_text r) × (is_ref r ≡ true)
unfolding ref_of
ref_of-some text r h =
    option_and_then_some if_ref (parts_of text) r h (λ s read kept.
    let good = cond_some (is_ref s) s r kept in
    let parts = parts_are (slice_split is_slash text) r (read ∙ ap Some good.1) in
    (sym (join_with_byte-slice_split 47 text) ∙ ap (join_with_byte 47) parts, ap is_ref (sym good.1) ∙ good.0))

-- Two good refs with one text are one ref.
pub ref_text-injective : (a b : Ref) → is_ref a ≡ true → is_ref b ≡ true → ref_text a ≡ ref_text b → a ≡ b
ref_text-injective a b good fine e =
    same_Some a b (sym (ref_of-ref_text a good) ∙ ap ref_of e ∙ ref_of-ref_text b fine)

-- the same, by what a comparison of their texts answered
pub same_by_eq : (a b : Ref) → is_ref a ≡ true → is_ref b ≡ true → (r : Bool) → r ≡ bytes_eq (ref_text a) (ref_text b) → (r ≡ true → a ≡ b) × (a ≡ b → r ≡ true)
same_by_eq a b good fine r is =
    let compared = bytes_eq-Decides (ref_text a) (ref_text b) in
    (λ e. ref_text-injective a b good fine (compared.0 (sym is ∙ e)), λ e. is ∙ compared.1 (ap ref_text e))

pub same_by_cmp : (a b : Ref) → is_ref a ≡ true → is_ref b ≡ true → (r : Ordering) → r ≡ slice_cmp nat_cmp (ref_text a) (ref_text b) → (r ≡ Equal → a ≡ b) × (a ≡ b → r ≡ Equal)
same_by_cmp a b good fine r is =
    let equal = Equal-is r in
    let same = same_by_eq a b good fine (is_eq r) (ap is_eq is ∙ is_eq-slice_cmp (ref_text a) (ref_text b)) in
    (λ e. same.0 (equal.1 e), λ e. equal.0 (same.1 e))

-- the parts that a text with a ref has
pub parts_of-some : (text : List ℕ) (r : Ref) → ref_of text ≡ Some r → parts_of text ≡ Some r
unfolding ref_of
parts_of-some text r h =
    option_and_then_some if_ref (parts_of text) r h (λ s read kept. read ∙ ap Some (cond_some (is_ref s) s r kept).1)

-- a kind, and ID/ARCH/BRANCH after it
pub ref_of_kind : (kind : RefKind) (text : List ℕ) → ref_of (kind_word kind ++ 47 ∷ text) ≡ option_and_then if_ref (remainder_kind (slice_split is_slash text) kind)
unfolding ref_of
ref_of_kind kind text =
    ap (λ ps. option_and_then if_ref (of_parts ps)) (slice_split_at is_slash (kind_word kind) 47 text (word_no_slash kind) refl)
    ∙ ap (λ k. option_and_then if_ref (option_and_then (remainder_kind (slice_split is_slash text)) k)) (kind_back kind)

-- ---- texts that are kept as refs

-- a text that some ref is read from
kept_by : (text : List ℕ) (o : Option Ref) → ref_of text ≡ o → is_some o ≡ true → ref_of text ≡ Some (unwrap_or o (ref_with App [] [] []))
kept_by text None e h = cc h
kept_by text (Some r) e h = e

pub kept : (text : List ℕ) → IsSome (ref_of text) → ref_of text ≡ Some (ref_at text)
kept text h = kept_by text (ref_of text) refl h

pub kept_text : (text : List ℕ) → IsSome (ref_of text) → text ≡ ref_text (ref_at text)
kept_text text h = (ref_of-some text (ref_at text) (kept text h)).0

pub kept_parts : (text : List ℕ) → IsSome (ref_of text) → parts_of text ≡ Some (ref_at text)
kept_parts text h = parts_of-some text (ref_at text) (kept text h)

pub kept_good : (text : List ℕ) → IsSome (ref_of text) → is_ref (ref_at text) ≡ true
kept_good text h = (ref_of-some text (ref_at text) (kept text h)).1

-- the text of a good ref may be kept, and is kept as that ref
pub kept_new : (text : List ℕ) (r : Ref) → text ≡ ref_text r → is_ref r ≡ true → IsSome (ref_of text) × (ref_at text ≡ r)
kept_new text r e good = rw (e, ref_of-ref_text r good) (refl, refl)

no_if : (b : Bool) (s : Ref) → cond b (Some s) None ≡ None → b ≡ false
no_if true s h = cc h
no_if false s h = refl

-- what `new` answers, as an answer to the text
pub made : (r : Result Ref NameError) (s : Ref) (read : Option Ref) → read ≡ if_ref s → IfOk r (λ name. name ≡ s) → OnOk r (is_ref s ≡ true) → IfOk r (λ name. read ≡ Some name)
made (Ok name) s read e same good = e ∙ rw good (ap Some (sym same))
made (Err fault) s read e same good = tt

pub refused : (r : Result Ref NameError) (s : Ref) (read : Option Ref) → read ≡ if_ref s → (r ≡ Err Bad → is_ref s ≡ false) → (is_ref s ≡ false → r ≡ Err Bad) → (r ≡ Err Bad → read ≡ None) × (read ≡ None → r ≡ Err Bad)
refused r s read e only when = (λ bad. e ∙ rw (only bad) refl, λ none. when (no_if (is_ref s) s (sym e ∙ none)))

-- ---- what is no text is no ref

-- parts of ASCII bytes make a text of ASCII bytes
pub Ascii-joined : (r : Ref) → IsAscii r.id → IsAscii r.arch → IsAscii r.branch → IsAscii (ref_text r)
Ascii-joined r id arch branch =
    IsAscii-append (kind_word r.kind) _ (word_ascii r.kind)
    (IsAscii-cons 47 _ (lit< tt) (IsAscii-append r.id _ id
    (IsAscii-cons 47 _ (lit< tt) (IsAscii-append r.arch _ arch
    (IsAscii-cons 47 r.branch (lit< tt) branch)))))

pub Ascii-ref_text : (r : Ref) → is_ref r ≡ true → IsAscii (ref_text r)
Ascii-ref_text r good =
    let parts = parts_good r good in
    Ascii-joined r (Ascii-from_dotted r.id (dotted_id r.id parts.id)) (Ascii-from_dotted r.arch (dotted_arch r.arch parts.arch)) (Ascii-from_dotted r.branch (dotted_branch r.branch parts.branch))

no_ref_by : (text : List ℕ) (o : Option Ref) → (IsUtf8 text → ⊥) → ref_of text ≡ o → o ≡ None
no_ref_by text None bad e = refl
no_ref_by text (Some r) bad e =
    let is = ref_of-some text r e in
    absurd (bad (IsUtf8-from_ascii text (rw is.0 (Ascii-ref_text r is.1))))

pub no_text_no_ref : (text : List ℕ) → (IsUtf8 text → ⊥) → ref_of text ≡ None
no_text_no_ref text bad = no_ref_by text (ref_of text) bad refl

pub kind_same : (a b : RefKind) → kind_word a ≡ kind_word b → a ≡ b
kind_same App App e = refl
kind_same Runtime Runtime e = refl
kind_same App Runtime e = absurd (bytes_eq-false (codes "app") (codes "runtime") refl e)
kind_same Runtime App e = absurd (bytes_eq-false (codes "runtime") (codes "app") refl e)

pub word_apart : (k : RefKind) (w : List ℕ) → bytes_eq (codes "app") w ≡ false → bytes_eq (codes "runtime") w ≡ false → kind_word k ≢ w
word_apart App w a r = bytes_eq-false (codes "app") w a
word_apart Runtime w a r = bytes_eq-false (codes "runtime") w r
