-- What a dirtree lists is what the entries of the directory are.
use Rattle.std.proofs.Common.{◌≡◌, ◌≢◌, inl, inr, ℕ, List, [], ◌∷◌, Bool, true, false, Some, None, refl, sym, ◌∙◌, ap, subst}
use Rattle.std.specs.Prelude.{if◌then◌else◌}
use Rattle.std.specs.Str.{bytes_eq}
use Rattle.std.proofs.lemmas.Slice.Eq.{bytes_eq-Decides}
use Rattle.ost_model.specs.Fields.{DirRow, FileRow}
use Rattle.ost_model.specs.Order.{In}
use Rattle.ost_model.specs.Look.{directory, find_dir, find_file, either, entry_in}
use Rattle.ost_commit.specs.declared.tree.Child.{Child}
use Rattle.ost_commit.specs.declared.tree.Child.TheVariants as child
use Rattle.ost_commit.specs.Folders.{child_in}
use Rattle.ost_commit.proofs.Keys.{IsNew, AreDistinct, same_test, other_test, here, later, known_apart}
use Rattle.ost_commit.specs.Entries.{Names, with_file, with_dir, file_rows, dir_rows, tree_rows, child_found}

module _ (names : Names) where
  no_dir : (x : List ℕ) (es : List (List ℕ × Child)) → IsNew x es → find_dir x (dir_rows names es) ≡ None
  no_dir x [] new = refl
  no_dir x (e ∷ es) new = go e.0 e.1 new.0 (no_dir x es new.1)
    where
      go : (y : List ℕ) (c : Child) → x ≢ y → find_dir x (dir_rows names es) ≡ None → find_dir x (with_dir names y c (dir_rows names es)) ≡ None
      go y (child.Content k) apart h = h
      go y (child.Folder j) apart h = ap (λ b. if b then Some (record { name = y; tree = names.tree j; meta = names.meta }) else find_dir x (dir_rows names es)) (other_test x y apart) ∙ h

  -- what is found under a name is its child
  pub found_child : (x : List ℕ) (es : List (List ℕ × Child)) → AreDistinct es → entry_in x (Some (tree_rows names es)) ≡ child_found names x (child_in es x)
  found_child x [] d = refl
  found_child x (e ∷ es) d = go e.0 e.1 d.0 (found_child x es d.1) ∙ ap (λ b. child_found names x (if b then Some e.1 else child_in es x)) (sym (same_test x e.0))
    where
      go : (y : List ℕ) (c : Child) → IsNew y es → either (find_dir x (dir_rows names es)) (find_file x (file_rows names es)) ≡ child_found names x (child_in es x)
          → either (find_dir x (with_dir names y c (dir_rows names es))) (find_file x (with_file names y c (file_rows names es))) ≡ child_found names x (if bytes_eq y x then Some c else child_in es x)
      go y (child.Content k) new h = by (bytes_eq y x) (bytes_eq-Decides y x).0
        where
          by : (b : Bool) → (b ≡ true → y ≡ x)
              → either (find_dir x (dir_rows names es)) (if b then Some (record { name = y; digest = names.file k }) else find_file x (file_rows names es)) ≡ child_found names x (if b then Some (child.Content k) else child_in es x)
          by true same = ap (λ o. either o (Some (record { name = y; digest = names.file k }))) (subst (λ z. find_dir z (dir_rows names es) ≡ None) (same refl) (no_dir y es new))
          by false same = h
      go y (child.Folder j) new h = by (bytes_eq y x) (bytes_eq-Decides y x).0
        where
          by : (b : Bool) → (b ≡ true → y ≡ x)
              → either (if b then Some (record { name = y; tree = names.tree j; meta = names.meta }) else find_dir x (dir_rows names es)) (find_file x (file_rows names es))
              ≡ child_found names x (if b then Some (child.Folder j) else child_in es x)
          by true same = ap (λ z. directory (record { name = z; tree = names.tree j; meta = names.meta })) (same refl)
          by false same = h

  -- each file or link that is listed is a child of its name
  pub listed_file : (es : List (List ℕ × Child)) → AreDistinct es → (f : FileRow) → In (file_rows names es) f → (k : ℕ) × (child_in es f.name ≡ Some (child.Content k)) × (f.digest ≡ names.file k)
  listed_file [] d f h = absurd h
  listed_file (e ∷ es) d f h = go e.0 e.1 d.0 (λ k. listed_file es d.1 f k) h
    where
      more : (y : List ℕ) (c : Child) → IsNew y es → (k : ℕ) × (child_in es f.name ≡ Some (child.Content k)) × (f.digest ≡ names.file k)
          → (k : ℕ) × (child_in ((y, c) ∷ es) f.name ≡ Some (child.Content k)) × (f.digest ≡ names.file k)
      more y c new r = (r.0, later f.name y c es (known_apart y es new f.name (child.Content r.0) r.1) ∙ r.1, r.2)

      go : (y : List ℕ) (c : Child) → IsNew y es → (In (file_rows names es) f → (k : ℕ) × (child_in es f.name ≡ Some (child.Content k)) × (f.digest ≡ names.file k))
          → In (with_file names y c (file_rows names es)) f → (k : ℕ) × (child_in ((y, c) ∷ es) f.name ≡ Some (child.Content k)) × (f.digest ≡ names.file k)
      go y (child.Content k) new tail (inl same) = (k, ap (child_in ((y, child.Content k) ∷ es)) (sym (ap (λ (r : FileRow). r.name) same)) ∙ here y (child.Content k) es, sym (ap (λ (r : FileRow). r.digest) same))
      go y (child.Content k) new tail (inr h) = more y (child.Content k) new (tail h)
      go y (child.Folder j) new tail h = more y (child.Folder j) new (tail h)

  pub listed_dir : (es : List (List ℕ × Child)) → AreDistinct es → (r : DirRow) → In (dir_rows names es) r
      → (j : ℕ) × (child_in es r.name ≡ Some (child.Folder j)) × (r.tree ≡ names.tree j) × (r.meta ≡ names.meta)
  listed_dir [] d r h = absurd h
  listed_dir (e ∷ es) d r h = go e.0 e.1 d.0 (λ k. listed_dir es d.1 r k) h
    where
      more : (y : List ℕ) (c : Child) → IsNew y es → (j : ℕ) × (child_in es r.name ≡ Some (child.Folder j)) × (r.tree ≡ names.tree j) × (r.meta ≡ names.meta)
          → (j : ℕ) × (child_in ((y, c) ∷ es) r.name ≡ Some (child.Folder j)) × (r.tree ≡ names.tree j) × (r.meta ≡ names.meta)
      more y c new t = (t.0, later r.name y c es (known_apart y es new r.name (child.Folder t.0) t.1) ∙ t.1, t.2, t.3)

      go : (y : List ℕ) (c : Child) → IsNew y es → (In (dir_rows names es) r → (j : ℕ) × (child_in es r.name ≡ Some (child.Folder j)) × (r.tree ≡ names.tree j) × (r.meta ≡ names.meta))
          → In (with_dir names y c (dir_rows names es)) r → (j : ℕ) × (child_in ((y, c) ∷ es) r.name ≡ Some (child.Folder j)) × (r.tree ≡ names.tree j) × (r.meta ≡ names.meta)
      go y (child.Content k) new tail h = more y (child.Content k) new (tail h)
      go y (child.Folder j) new tail (inl same) = (
        j,
        ap (child_in ((y, child.Folder j) ∷ es)) (sym (ap (λ (d : DirRow). d.name) same)) ∙ here y (child.Folder j) es,
        sym (ap (λ (d : DirRow). d.tree) same),
        sym (ap (λ (d : DirRow). d.meta) same),
      )
      go y (child.Folder j) new tail (inr h) = more y (child.Folder j) new (tail h)
