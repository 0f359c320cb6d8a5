-- Which values fit, step by step.
use Rattle.std.proofs.Common.{◌≡◌, ℕ, zero, suc, ◌+◌, ◌-◌, ◌^◌, ◌<◌, Bool, true, false, ◌&&◌, eqb, ltb, List, [], ◌∷◌, length, refl, sym, ap, ◌∙◌, subst, arith, pos, negsuc, ◌↔◌, true≢false}
use Rattle.std.specs.Int.{byte_len}
use Rattle.std.proofs.lemmas.Bool.{and_from, and_left, and_right, eq-eqb, lt-ltb, cases_Bool}
use Rattle.std.proofs.Common.{⊎_elim}
use Rattle.gv_value.specs.declared.basic.Basic.{Basic}
use Rattle.gv_value.specs.declared.basic.Basic.TheVariants as basics
use Rattle.gv_value.specs.declared.parts.Content.{Content as Held}
use Rattle.gv_value.specs.declared.parts.Content.TheVariants as held
use Rattle.gv_value.specs.declared.types.GvType.{GvType}
use Rattle.gv_value.specs.declared.value.GvValue.{GvValue}
use Rattle.gv_value.specs.Basics.{Form, form_of}
use Rattle.gv_value.specs.Bytes.{AllBelow}
use Rattle.gv_value.specs.Parts.{content_of, IsHeldContent}
use Rattle.gv_value.specs.Shape.{Shape, Shapes, no_shapes, shape}
use Rattle.gv_value.specs.Signs.{basic_letter}
use Rattle.gv_value.specs.Spelling.{content_fits, all_fit, each_fits, fits_within}
use Rattle.gv_value.specs.Tree.{Content, Tree, Trees, no_trees, tree, byte_trees}
use Rattle.gv_value.specs.Views.{shape_of, shapes_of, plain, plains}
use Rattle.gv_value.proofs.Contents.{same_basic, fits_signed-from, are_bytes-below}

-- contents other than texts are as their types say
pub held_fits : (f : Form) (h : Held) → IsHeldContent f h → ((text : _) → h ≡ held.Text text → ⊥) → true ≡ content_fits f (content_of h)
held_fits Form.truth (held.Truth b) is other = refl
held_fits (Form.unsigned w) (held.Number n) is other = sym (lt-ltb n (256 ^ byte_len w) is)
held_fits (Form.signed w) (held.Integer z) is other = sym (fits_signed-from w z is)
held_fits Form.double (held.Eight eight) is other =
    sym (and_from (eqb (length eight.now) 8) _ (eq-eqb (length eight.now) 8 is.0) (are_bytes-below eight.now is.1))
held_fits (Form.text kind) (held.Text text) is other = absurd (other text refl)
held_fits Form.truth _ is other = absurd is
held_fits (Form.unsigned w) _ is other = absurd is
held_fits (Form.signed w) _ is other = absurd is
held_fits Form.double _ is other = absurd is
held_fits (Form.text kind) _ is other = absurd is

pub basic_same : (n : ℕ) (b c : Basic) (h : Held) (r : Bool) → b ≡ c → r ≡ content_fits (form_of c) (content_of h) →
    r ≡ fits_within n (Shape.basic b) (Tree.leaf c (content_of h))
basic_same n b c h r e is =
    subst (λ (x : Basic). r ≡ fits_within n (Shape.basic x) (Tree.leaf c (content_of h))) (sym e) (at n)
  where
    at : (m : ℕ) → r ≡ fits_within m (Shape.basic c) (Tree.leaf c (content_of h))
    at zero = is ∙ sym (ap (λ (x : Bool). x && content_fits (form_of c) (content_of h)) (eq-eqb (basic_letter c) (basic_letter c) refl))
    at (suc m) = is ∙ sym (ap (λ (x : Bool). x && content_fits (form_of c) (content_of h)) (eq-eqb (basic_letter c) (basic_letter c) refl))

-- ---- bytes

byte_fits : (n b : ℕ) → b < 256 → fits_within n (Shape.basic basics.Byte) (Tree.leaf basics.Byte (Content.number b)) ≡ true
byte_fits zero b h = lt-ltb b 256 h
byte_fits (suc n) b h = lt-ltb b 256 h

all_bytes_fit : (n : ℕ) (bytes : List ℕ) → AllBelow 256 bytes → all_fit (fits_within n (Shape.basic basics.Byte)) (byte_trees bytes) ≡ true
all_bytes_fit n [] h = refl
all_bytes_fit n (b ∷ bytes) h = and_from _ (all_fit (fits_within n (Shape.basic basics.Byte)) (byte_trees bytes)) (byte_fits n b h.0) (all_bytes_fit n bytes h.1)

pub bytes_fit : (n : ℕ) (t : Shape) (bytes : List ℕ) → t ≡ Shape.basic basics.Byte → AllBelow 256 bytes → true ≡ all_fit (fits_within n t) (byte_trees bytes)
bytes_fit n t bytes e h = subst (λ (x : Shape). true ≡ all_fit (fits_within n x) (byte_trees bytes)) (sym e) (sym (all_bytes_fit n bytes h))

other_letter : (b : Basic) → (b ≡ basics.Byte → ⊥) → eqb (basic_letter b) (basic_letter basics.Byte) ≡ false
other_letter b h = ⊎_elim (λ e. absurd (h (same_basic b basics.Byte e))) (λ e. e) (cases_Bool (eqb (basic_letter b) (basic_letter basics.Byte)))

byte_unfit : (n : ℕ) (t : Shape) (b : ℕ) → (t ≡ Shape.basic basics.Byte → ⊥) → fits_within n t (Tree.leaf basics.Byte (Content.number b)) ≡ false
byte_unfit zero (Shape.basic c) b h = and_left (eqb (basic_letter c) (basic_letter basics.Byte)) (content_fits (form_of c) (Content.number b)) (other_letter c (λ e. h (ap Shape.basic e)))
byte_unfit (suc n) (Shape.basic c) b h = and_left (eqb (basic_letter c) (basic_letter basics.Byte)) (content_fits (form_of c) (Content.number b)) (other_letter c (λ e. h (ap Shape.basic e)))
byte_unfit zero Shape.variant b h = refl
byte_unfit (suc n) Shape.variant b h = refl
byte_unfit zero (Shape.array t) b h = refl
byte_unfit (suc n) (Shape.array t) b h = refl
byte_unfit zero (Shape.maybe t) b h = refl
byte_unfit (suc n) (Shape.maybe t) b h = refl
byte_unfit zero (Shape.tuple ts) b h = refl
byte_unfit (suc n) (Shape.tuple ts) b h = refl
byte_unfit zero (Shape.entry k v) b h = refl
byte_unfit (suc n) (Shape.entry k v) b h = refl

pub bytes_unfit : (n : ℕ) (t : Shape) (bytes : List ℕ) → (t ≡ Shape.basic basics.Byte → ⊥) → (length bytes ≡ 0 → ⊥) → false ≡ all_fit (fits_within n t) (byte_trees bytes)
bytes_unfit n t [] h some = absurd (some refl)
bytes_unfit n t (b ∷ bytes) h some = sym (and_left (fits_within n t (Tree.leaf basics.Byte (Content.number b))) (all_fit (fits_within n t) (byte_trees bytes)) (byte_unfit n t b h))

-- ---- members

pub counts_differ : (one : Shape → Tree → Bool) (ts : List GvType) (vs : List GvValue) → (length ts ≡ length vs → ⊥) → false ≡ each_fits one (shapes_of ts) (plains vs)
counts_differ one [] [] h = absurd (h refl)
counts_differ one [] (v ∷ vs) h = refl
counts_differ one (t ∷ ts) [] h = refl
counts_differ one (t ∷ ts) (v ∷ vs) h =
    sym (and_right (one (shape_of t) (plain v)) (each_fits one (shapes_of ts) (plains vs)) (sym (counts_differ one ts vs (λ e. h (ap suc e)))))

pub in_room : (room : ℕ) (t : Shape) (v : Tree) (r : Bool) → (room ≡ 0 → ⊥) → r ≡ fits_within (suc (room - 1)) t v → r ≡ fits_within room t v
in_room zero t v r h e = absurd (h refl)
in_room (suc n) t v r h e = let less : suc n - 1 ≡ n = omega arith in e ∙ ap (λ (m : ℕ). fits_within (suc m) t v) less

pub array_of_bytes : (n : ℕ) (t : Shape) (bytes : List ℕ) (r : Bool) → ((r ≡ true) ↔ (t ≡ Shape.basic basics.Byte)) → AllBelow 256 bytes → (length bytes ≡ 0 → ⊥) →
    r ≡ fits_within (suc n) (Shape.array t) (Tree.array (byte_trees bytes))
array_of_bytes n t bytes true is below some = bytes_fit n t bytes (is.0 refl) below
array_of_bytes n t bytes false is below some = bytes_unfit n t bytes (λ e. absurd (true≢false (sym (is.1 e)))) some
