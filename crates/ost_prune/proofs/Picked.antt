-- The objects of a folder, and of all folders of a store.
use Rattle.std.proofs.Common.{◌≡◌, ◌≢◌, inl, inr, ◌<◌, ◌+◌, ℕ, Bool, true, false, List, [], ◌∷◌, ◌++◌, map, take, drop, codes, eqb, get_or, length, refl, sym, ◌∙◌, ap, subst, Contains, arith}
use Rattle.std.specs.Prelude.{is_some}
use Rattle.std.specs.List.{list_all}
use Rattle.std.proofs.Math.Seq.{take-length}
use Rattle.std.proofs.lemmas.Bool.{and_parts, eqb-true, both_ways}
use Rattle.std.proofs.lemmas.List.{append-nil}
use Rattle.std.proofs.lemmas.List.Elements.{Contains-append_left, Contains-push, Contains-push_cases}
use Rattle.fp_host.specs.Paths.{Elements, absent, dir, path_text}
use Rattle.fp_host.specs.Reads.{AreNames, is_ascending}
use Rattle.fp_host.specs.View.{View, IsTree}
use Rattle.fp_host.proofs.Slots.{leaf_there}
use Rattle.fp_name.specs.Hex.{digit_value, hex, is_digest}
use Rattle.fp_base.specs.declared.object.ObjKind.{ObjKind}
use Rattle.fp_base.specs.Objects.{kind_text}
use Rattle.fp_base.proofs.Lists.{in_none, in_map, from_map, take_read}
use Rattle.fp_small.specs.Naming.{ListsIn}
use Rattle.fp_small.specs.Order.{comes_before}
use Rattle.fp_small.proofs.Ordered.{less_one}
use Rattle.ost_model.specs.Stores.{is_prefix, objects_folder}
use Rattle.ost_store.specs.Names.{name_in, name_text}
use Rattle.ost_store.proofs.Elements.{prefix_is_one}
use Rattle.ost_prune.specs.Prune.{IsUnused, ListsUnused}
use Rattle.ost_prune.specs.Finding.{AreBefore, PicksNames, PicksFolder, PicksUnused, folder_of}
use Rattle.ost_prune.proofs.Before.{append_ascends, before_last, folders_before, texts_ascend}
use Rattle.ost_prune.proofs.Found.{Object, object_leaf}

prefix_long : (xx : List ℕ) → is_prefix xx ≡ true → length xx ≡ 2
prefix_long xx is = eqb-true (length xx) 2 (and_parts (eqb (length xx) 2) (list_all (λ c. is_some (digit_value c)) xx) is).0

-- the name that the object has in its folder
abbrev last_of : Object → List ℕ
last_of o = drop 2 (hex o.0) ++ (codes "." ++ kind_text o.1)

module _ (root : Elements) (keep : List (List ℕ)) (v : View) where
  -- where it is there, something has its name
  named_there : IsTree v → (o : Object) → IsUnused root keep v o → v.names (name_in root o) ≢ absent
  named_there tree o is = leaf_there (v.names (name_in root o)) (object_leaf root o.0 o.1 v tree is.there)

  -- ---- one folder

  module _ (xx : List ℕ) (found found' : List Object) where
    -- no object is in a folder of another name
    pub other_folder : is_prefix xx ≡ false → found' ≡ found → PicksFolder root keep xx v found found'
    other_folder other same = subst (PicksFolder root keep xx v found) (sym same) (record {
      each = λ o. (λ has. inl has, λ either. elim either [ inl has ↦ has | inr both ↦ absurd (both_ways (is_prefix xx) other (ap is_prefix (sym both.1) ∙ prefix_is_one o.0 both.0.digits)) ]);
      ascending = λ h before. h;
    })

    module _ (names : List (List ℕ)) (are : AreNames names) (lists : ListsIn (xx ∷ objects_folder root) v names) (is : is_prefix xx ≡ true) (picks : PicksNames root keep (map (λ x. x ∷ (xx ∷ objects_folder root)) names) v found found') where
      of_folder : (o : Object) → Contains (map (λ (x : List ℕ). x ∷ (xx ∷ objects_folder root)) names) (name_in root o) → folder_of o ≡ xx
      of_folder o has = let one = from_map (λ (x : List ℕ). x ∷ (xx ∷ objects_folder root)) names (name_in root o) has in ap (λ (p : Elements). get_or p 1 []) one.2

      in_folder : IsTree v → (o : Object) → IsUnused root keep v o → folder_of o ≡ xx → Contains (map (λ (x : List ℕ). x ∷ (xx ∷ objects_folder root)) names) (name_in root o)
      in_folder tree o unused same =
          let name = last_of o in
          let here : name_in root o ≡ name ∷ (xx ∷ objects_folder root) = ap (λ (f : List ℕ). name ∷ (f ∷ objects_folder root)) same in
          subst (Contains (map (λ (x : List ℕ). x ∷ (xx ∷ objects_folder root)) names)) (sym here) (in_map (λ (x : List ℕ). x ∷ (xx ∷ objects_folder root)) names name ((lists.each name).1 (λ none. named_there tree o unused (ap v.names here ∙ none))))

      -- what is in the list comes before what is in the folder
      texts_before : AreBefore xx found → (s t : List ℕ) → Contains (map (name_text root) found) s → Contains (map path_text (map (λ (x : List ℕ). x ∷ (xx ∷ objects_folder root)) names)) t → comes_before s t ≡ true
      texts_before before s t has_s has_t =
          let o = from_map (name_text root) found s has_s in
          let p = from_map path_text (map (λ (x : List ℕ). x ∷ (xx ∷ objects_folder root)) names) t has_t in
          let x = from_map (λ (x : List ℕ). x ∷ (xx ∷ objects_folder root)) names p.0 p.1 in
          let earlier = before o.0 o.1 in
          (λ i. comes_before (o.2 i) ((p.2 ∙ ap path_text x.2) i))
          ∙ folders_before (last_of o.0) x.0 (folder_of o.0) xx (objects_folder root) (λ e. cc e) (prefix_long (folder_of o.0) (prefix_is_one o.0.0 earlier.0) ∙ sym (prefix_long xx is)) earlier.1

      pub this_folder : IsTree v → PicksFolder root keep xx v found found'
      this_folder tree = record {
        each = λ o. (
          λ has. elim ((picks.each o).0 has) [ inl earlier ↦ inl earlier | inr both ↦ inr (both.0, of_folder o both.1) ],
          λ either. (picks.each o).1 (elim either [ inl earlier ↦ inl earlier | inr both ↦ inr (both.0, in_folder tree o both.0 both.1) ]),
        );
        ascending = λ h before. picks.ascending (append_ascends (map (name_text root) found) (map path_text (map (λ (x : List ℕ). x ∷ (xx ∷ objects_folder root)) names)) h
            (texts_ascend (xx ∷ objects_folder root) (λ e. cc e) names ∙ are.ascending) (texts_before before));
      }

  -- ---- folder after folder

  pub no_folders : (names : List (List ℕ)) (found : List Object) → found ≡ [] → PicksUnused root keep (take 0 names) v found
  no_folders names found none = subst (PicksUnused root keep [] v) (sym none) (record {
    each = λ o. (λ has. absurd (in_none o has), λ both. absurd (in_none (folder_of o) both.1));
    ascending = λ h. refl;
  })

  one_folder : (names : List (List ℕ)) (x : List ℕ) (found found' : List Object) → PicksUnused root keep names v found → PicksFolder root keep x v found found' → PicksUnused root keep (names ++ x ∷ []) v found'
  one_folder names x found found' so_far one = record {
    each = λ o. (
      λ has. elim ((one.each o).0 has) [
        | inl earlier ↦ let both = (so_far.each o).0 earlier in (both.0, Contains-append_left names (x ∷ []) (folder_of o) both.1)
        | inr here ↦ (here.0, subst (Contains (names ++ x ∷ [])) (sym here.1) (Contains-push names x))
      ],
      λ both. (one.each o).1 (elim (Contains-push_cases names x (folder_of o) both.1) [
        | inl earlier ↦ inl ((so_far.each o).1 (both.0, earlier))
        | inr same ↦ inr (both.0, sym same)
      ]),
    );
    ascending = λ h. one.ascending
        (so_far.ascending (front names x h))
        (λ o has. let both = (so_far.each o).0 has in (both.0.digits, before_last names x (folder_of o) h both.1));
  }
    where
      front : (names : List (List ℕ)) (x : List ℕ) → is_ascending (names ++ x ∷ []) ≡ true → is_ascending names ≡ true
      front names x h = subst (λ (l : List (List ℕ)). is_ascending l ≡ true) (append-nil names) (less_one names x [] h)

  pub next_folder : (names : List (List ℕ)) (i : ℕ) (x : List ℕ) (found found' : List Object) → i < length names → x ≡ get_or names i x → PicksUnused root keep (take i names) v found → PicksFolder root keep x v found found' → PicksUnused root keep (take (i + 1) names) v found'
  next_folder names i x found found' low is so_far one = subst (λ (l : List (List ℕ)). PicksUnused root keep l v found') (sym (take_read names i x low is)) (one_folder (take i names) x found found' so_far one)

  pub last_folder : (names : List (List ℕ)) (i : ℕ) (found : List Object) → length names ≡ i → PicksUnused root keep (take i names) v found → PicksUnused root keep names v found
  last_folder names i found is so_far = subst (λ (l : List (List ℕ)). PicksUnused root keep l v found) (ap (λ (k : ℕ). take k names) (sym is) ∙ take-length names) so_far

  -- ---- all folders

  pub all_folders : (names : List (List ℕ)) (found : List Object) → IsTree v → AreNames names → ListsIn (objects_folder root) v names → PicksUnused root keep names v found → ListsUnused root keep v found
  all_folders names found tree are lists picks = record {
    each = λ o. (λ has. ((picks.each o).0 has).0, λ unused. (picks.each o).1 (unused, (lists.each (folder_of o)).1 (there o unused)));
    ascending = picks.ascending are.ascending;
  }
    where
      there : (o : Object) → IsUnused root keep v o → v.names (folder_of o ∷ objects_folder root) ≢ absent
      there o unused none = elim (tree.above (last_of o) (folder_of o ∷ objects_folder root)) [
        | inl gone ↦ named_there tree o unused gone
        | inr folder ↦ cc (folder, none)
      ]
