-- Children that are cut one by one.
use Rattle.std.proofs.Common.{◌≡◌, ℕ, ◌+◌, Bool, true, false, cond, eqb, List, [], ◌∷◌, ◌++◌, length, Option, Some, None, option_map, option_and_then, refl, sym, ap, ◌∙◌, append_assoc, append-nil}
use Rattle.std.proofs.lemmas.Bool.{eq-eqb, eqb-true}
use Rattle.gv_value.specs.Layout.{padding}
use Rattle.gv_value.specs.Framing.{Mark, child_at, cut}
use Rattle.gv_decode.specs.declared.error.DecodeError.{DecodeError}
use Rattle.gv_decode.specs.declared.error.DecodeError.TheVariants as errors
use denote.Ref.{Bor}
use Rattle.gv_decode.specs.Decoded.{Fails, slices}

-- what is cut of the whole, by the children that are cut and what is cut of the rest
pub record SoFar (children : List (List ℕ)) (rest whole : Option (List (List ℕ))) : Type 0 where
  pub is : option_map (λ others. children ++ others) rest ≡ whole

pub so_far-none : (whole : Option (List (List ℕ))) → SoFar [] whole whole
so_far-none None = record { is = refl }
so_far-none (Some cs) = record { is = refl }

pub so_far-fails : (children : List (List ℕ)) (rest whole : Option (List (List ℕ))) → SoFar children rest whole → rest ≡ None → whole ≡ None
so_far-fails children rest whole so e = sym so.is ∙ ap (option_map (λ others. children ++ others)) e

pub so_far-ends : (children : List (List ℕ)) (rest whole : Option (List (List ℕ))) → SoFar children rest whole → rest ≡ Some [] → whole ≡ Some children
so_far-ends children rest whole so e = sym so.is ∙ ap (option_map (λ others. children ++ others)) e ∙ ap (λ (cs : List (List ℕ)). Some cs) (append-nil children)

pub so_far-more : (children : List (List ℕ)) (child : List ℕ) (rest others whole : Option (List (List ℕ))) → SoFar children rest whole →
    rest ≡ option_map (λ cs. child ∷ cs) others → SoFar (children ++ child ∷ []) others whole
so_far-more children child rest others whole so e = record { is = by others ∙ ap (option_map (λ cs. children ++ cs)) (sym e) ∙ so.is }
  where
    by : (o : Option (List (List ℕ))) → option_map (λ cs. (children ++ child ∷ []) ++ cs) o ≡ option_map (λ cs. children ++ cs) (option_map (λ cs. child ∷ cs) o)
    by None = refl
    by (Some cs) = ap (λ (xs : List (List ℕ)). Some xs) (append_assoc children (child ∷ []) cs)

-- one slice more
pub slices-more : (xs : List (Bor (List ℕ))) (x : Bor (List ℕ)) → slices (xs ++ x ∷ []) ≡ slices xs ++ x.now ∷ []
slices-more [] x = refl
slices-more (y ∷ xs) x = ap (λ (cs : List (List ℕ)). y.now ∷ cs) (slices-more xs x)

-- ---- errors

pub fails-more : {A B : Type 0} (e : DecodeError) (part : Option A) (whole : Option B) → (part ≡ None → whole ≡ None) → Fails e part → Fails e whole
fails-more errors.TooLong part whole f h = h
fails-more errors.NotNormal part whole f h = f h
fails-more errors.NoMemory part whole f h = tt

-- ---- one child more

pub cut-ends : (body : List ℕ) (at : ℕ) → at ≡ length body → cut body at [] ≡ Some []
cut-ends body at e = ap (λ (b : Bool). cond b (Some []) None) (eq-eqb at (length body) e)

pub cut-short : (body : List ℕ) (at : ℕ) → (at ≡ length body → ⊥) → cut body at [] ≡ None
cut-short body at other = by (eqb at (length body)) refl
  where
    by : (b : Bool) → eqb at (length body) ≡ b → cond {A = Option (List (List ℕ))} b (Some []) None ≡ None
    by false is = refl
    by true is = absurd (other (eqb-true at (length body) is))

pub cut-no_child : (body : List ℕ) (at align end : ℕ) (marks : List Mark) → child_at body at (at + padding at align) end ≡ None → cut body at ((align, end) ∷ marks) ≡ None
cut-no_child body at align end marks e = ap (option_and_then (λ child. option_map (λ others. child ∷ others) (cut body end marks))) e

pub cut-child : (body : List ℕ) (at align end : ℕ) (marks : List Mark) (child : List ℕ) → child_at body at (at + padding at align) end ≡ Some child →
    cut body at ((align, end) ∷ marks) ≡ option_map (λ others. child ∷ others) (cut body end marks)
cut-child body at align end marks child e = ap (option_and_then (λ c. option_map (λ others. c ∷ others) (cut body end marks))) e
