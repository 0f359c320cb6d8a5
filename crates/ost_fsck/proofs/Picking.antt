-- What is picked path by path.
use Rattle.std.proofs.Common.{◌≡◌, inl, inr, ◌<◌, ◌+◌, ℕ, suc, true, List, [], ◌∷◌, ◌++◌, map, take, drop, get_or, length, Option, Some, None, sym, ◌∙◌, ap, subst, Contains, arith, append_assoc, append-nil}
use Rattle.std.specs.Prelude.{◌↔◌}
use Rattle.std.proofs.Math.Seq.{take-suc, take-length, drop-cons}
use Rattle.std.proofs.lemmas.List.{map-append, drop_all}
use Rattle.std.proofs.lemmas.List.Elements.{Contains-append_left, Contains-push, Contains-push_cases}
use Rattle.fp_base.proofs.Lists.{in_none}
use Rattle.fp_host.specs.Paths.{Elements, path_text}
use Rattle.fp_host.specs.Reads.{is_ascending}
use Rattle.fp_small.proofs.Ordered.{less_one}
use Rattle.ost_fsck.specs.Picking.{Picks}
use Rattle.ost_store.specs.Names.{with_found}

-- ---- path after path

-- what the path is that of, if of anything
abbrev pub IsPicked : {A : Type 0} → (A → Type 0) → (A → Elements) → Elements → Option A → Type 0
IsPicked Is at path (Some a) = Is a × (path ≡ at a)
IsPicked {A} Is at path None = (a : A) → path ≡ at a → Is a → ⊥

module _ {A : Type 0} (Is : A → Type 0) (at : A → Elements) (paths : List Elements) where
  abbrev text_at : A → List ℕ
  text_at a = path_text (at a)

  -- what was picked among the first i paths
  pub record PicksSoFar (i : ℕ) (picked : List A) : Type 0 where
    pub each : (a : A) → Contains picked a ↔ (Is a × Contains (take i paths) (at a))
    pub ascending : is_ascending (map path_text paths) ≡ true → is_ascending (map text_at picked ++ map path_text (drop i paths)) ≡ true

  pub none_picked : (picked : List A) → picked ≡ [] → PicksSoFar 0 picked
  none_picked picked none = subst (PicksSoFar 0) (sym none) (record {
    each = λ a. (λ has. absurd (in_none a has), λ both. absurd (in_none (at a) both.1));
    ascending = λ h. h;
  })

  module _ (i : ℕ) (path : Elements) (picked : List A) (low : i < length paths) (is : path ≡ get_or paths i path) (before : PicksSoFar i picked) where
    taken : take (i + 1) paths ≡ take i paths ++ path ∷ []
    taken =
        let more : i + 1 ≡ suc i = omega arith in
        ap (λ (k : ℕ). take k paths) more ∙ take-suc paths i path low ∙ ap (λ (x : Elements). take i paths ++ x ∷ []) (sym is)

    dropped : drop i paths ≡ path ∷ drop (i + 1) paths
    dropped =
        let more : suc i ≡ i + 1 = omega arith in
        drop-cons paths i path low ∙ ap (λ (x : Elements). x ∷ drop (suc i) paths) (sym is) ∙ ap (λ (k : ℕ). path ∷ drop k paths) more

    not_picked : IsPicked Is at path None → PicksSoFar (i + 1) picked
    not_picked none = record {
      each = λ a. (
        λ has. let b = (before.each a).0 has in (b.0, subst (λ (l : List Elements). Contains l (at a)) (sym taken) (Contains-append_left (take i paths) (path ∷ []) (at a) b.1)),
        λ both. elim (Contains-push_cases (take i paths) path (at a) (subst (λ (l : List Elements). Contains l (at a)) taken both.1)) [
          | inl earlier ↦ (before.each a).1 (both.0, earlier)
          | inr same ↦ absurd (none a same both.0)
        ],
      );
      ascending = λ h. less_one (map text_at picked) (path_text path) (map path_text (drop (i + 1) paths)) (subst (λ (l : List Elements). is_ascending (map text_at picked ++ map path_text l) ≡ true) dropped (before.ascending h));
    }

    module _ (one : (a b : A) → Is a → Is b → at a ≡ at b → a ≡ b) (a : A) (its : IsPicked Is at path (Some a)) where
      picked_list : PicksSoFar (i + 1) (picked ++ a ∷ [])
      picked_list = record {
        each = λ b. (
          λ has. elim (Contains-push_cases picked a b has) [
            | inl earlier ↦ let p = (before.each b).0 earlier in (p.0, subst (λ (l : List Elements). Contains l (at b)) (sym taken) (Contains-append_left (take i paths) (path ∷ []) (at b) p.1))
            | inr same ↦ subst (λ (x : A). Is x × Contains (take (i + 1) paths) (at x)) same
                (its.0, subst (λ (l : List Elements). Contains l (at a)) (sym taken) (subst (Contains (take i paths ++ path ∷ [])) its.1 (Contains-push (take i paths) path)))
          ],
          λ both. elim (Contains-push_cases (take i paths) path (at b) (subst (λ (l : List Elements). Contains l (at b)) taken both.1)) [
            | inl earlier ↦ Contains-append_left picked (a ∷ []) b ((before.each b).1 (both.0, earlier))
            | inr same ↦ subst (Contains (picked ++ a ∷ [])) (one a b its.0 both.0 (sym its.1 ∙ same)) (Contains-push picked a)
          ],
        );
        ascending = λ h.
            let text : path_text path ≡ text_at a = ap path_text its.1 in
            let all : map text_at picked ++ map path_text (drop i paths) ≡ map text_at (picked ++ a ∷ []) ++ map path_text (drop (i + 1) paths) =
            ap (λ (l : List Elements). map text_at picked ++ map path_text l) dropped
            ∙ ap (λ (t : List ℕ). map text_at picked ++ (t ∷ map path_text (drop (i + 1) paths))) text
            ∙ sym (append_assoc (map text_at picked) (text_at a ∷ []) (map path_text (drop (i + 1) paths)))
            ∙ ap (λ (l : List (List ℕ)). l ++ map path_text (drop (i + 1) paths)) (sym (map-append text_at picked (a ∷ []))) in
            subst (λ (l : List (List ℕ)). is_ascending l ≡ true) all (before.ascending h);
      }

    pub next_picked : ((a b : A) → Is a → Is b → at a ≡ at b → a ≡ b) → (o : Option A) → IsPicked Is at path o → PicksSoFar (i + 1) (with_found picked o)
    next_picked one None none = not_picked none
    next_picked one (Some a) its = picked_list one a its

  pub all_picked : (i : ℕ) (picked : List A) → length paths ≡ i → PicksSoFar i picked → Picks Is at paths picked
  all_picked i picked is so_far = record {
    each = λ a. subst (λ (l : List Elements). Contains picked a ↔ (Is a × Contains l (at a))) (ap (λ (k : ℕ). take k paths) (sym is) ∙ take-length paths) (so_far.each a);
    ascending = λ h. subst (λ (l : List (List ℕ)). is_ascending l ≡ true) (ap (λ (l : List Elements). map text_at picked ++ map path_text l) (drop_all i paths (omega (arith, is))) ∙ append-nil (map text_at picked)) (so_far.ascending h);
  }
