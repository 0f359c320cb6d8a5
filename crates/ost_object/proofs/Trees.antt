-- The rules of a dirtree, one by one.
use Rattle.std.proofs.Common.{◌≡◌, List, [], ◌∷◌, Bool, true, false, ◌&&◌, Option, Some, None, Err, refl, sym, ap, ◌∙◌}
use Rattle.std.specs.Prelude.{if◌then◌else◌, option_map, option_and_then, Result}
use Rattle.std.specs.List.{list_all}
use Rattle.fp_base.specs.declared.rule.Rule.{Rule}
use Rattle.fp_base.specs.declared.rule.Rule.TheVariants as rules
use Rattle.ost_model.specs.Fields.{TreeView}
use Rattle.ost_model.specs.Readers.{has_long, has_both_long, first_broken, name_tests, tree_breaks, kept}
use Rattle.ost_object.specs.Answers.{passing, only, Misses, Breaks}
use Rattle.ost_object.specs.declared.error.ObjectError.{ObjectError}
use Rattle.ost_object.specs.declared.error.ObjectError.TheVariants as errors

module _ {A : Type 0} (test : A → Bool) where
  -- all of the list, where each passes
  pub only_is : (xs : List A) → only test xs ≡ (if list_all test xs then Some xs else None)
  unfolding passing
  only_is [] = refl
  only_is (x ∷ xs) = go (test x) (list_all test xs) (only test xs) (only_is xs)
    where
      go : (one all : Bool) (r : Option (List A)) → r ≡ (if all then Some xs else None)
          → option_and_then (λ b. option_map (λ bs. b ∷ bs) r) (if one then Some x else None) ≡ (if one && all then Some (x ∷ xs) else None)
      go false all r is = refl
      go true true r is = ap (option_map (λ bs. x ∷ bs)) is
      go true false r is = ap (option_map (λ bs. x ∷ bs)) is

  if_none : {X : Type 0} (b : Bool) (x : X) → (if b then Some x else None) ≡ None → b ≡ false
  if_none true x is = absurd (cc is)
  if_none false x is = refl

  if_some : {X : Type 0} (b : Bool) (x y : X) → (if b then Some x else None) ≡ Some y → (b ≡ true) × (x ≡ y)
  if_some true x y is = (refl, cc is)
  if_some false x y is = absurd (cc is)

  pub only_none : (xs : List A) → only test xs ≡ None → list_all test xs ≡ false
  only_none xs is = if_none (list_all test xs) xs (sym (only_is xs) ∙ is)

  pub only_some : (xs ys : List A) → only test xs ≡ Some ys → (list_all test xs ≡ true) × (xs ≡ ys)
  only_some xs ys is = if_some (list_all test xs) xs ys (sym (only_is xs) ∙ is)

module _ (v : TreeView) where
  digests_fail : (a b : Bool) → a && b ≡ false → kept (first_broken ((a && b, rules.Digest) ∷ name_tests v)) v ≡ Err rules.Digest
  digests_fail a b is = ap (λ t. kept (if t then first_broken (name_tests v) else Some rules.Digest) v) is

  -- a file's digest is of another length
  pub file_digests : list_all has_long v.files ≡ false → kept (tree_breaks v) v ≡ Err rules.Digest
  file_digests is = digests_fail (list_all has_long v.files) (list_all has_both_long v.dirs) (ap (λ b. b && list_all has_both_long v.dirs) is)

  -- a directory's digest is of another length
  pub dir_digests : list_all has_long v.files ≡ true → list_all has_both_long v.dirs ≡ false → kept (tree_breaks v) v ≡ Err rules.Digest
  dir_digests long is = digests_fail (list_all has_long v.files) (list_all has_both_long v.dirs) (ap (λ b. b && list_all has_both_long v.dirs) long ∙ is)

  -- all digests have 32 bytes
  pub names_left : list_all has_long v.files ≡ true → list_all has_both_long v.dirs ≡ true → tree_breaks v ≡ first_broken (name_tests v)
  names_left one two = ap (λ t. if t then first_broken (name_tests v) else Some rules.Digest) (ap (λ b. b && list_all has_both_long v.dirs) one ∙ two)

-- where digests of 32 bytes are missed, the rule is `digest`
pub misses_breaks : {Y Z : Type 0} (e : ObjectError) (o : Option Y) (r : Result Z Rule) → Misses rules.Digest e o → (o ≡ None → r ≡ Err rules.Digest) → Breaks e r
misses_breaks (errors.Malformed rule) o r h f = f h.1 ∙ ap Err (sym h.0)
misses_breaks errors.NoMemory o r h f = tt
