-- A name that comes into a directory.
use Rattle.std.proofs.Common.{◌≡◌, ◌≢◌, ◌⊎◌, inl, inr, ◌<◌, ◌≤◌, ℕ, zero, suc, List, [], ◌∷◌, ◌++◌, length, Bool, true, false, Some, None, refl, sym, ◌∙◌, ap, subst, arith}
use Rattle.std.specs.Prelude.{if◌then◌else◌, slice_set}
use Rattle.std.specs.Str.{bytes_eq}
use Rattle.std.proofs.lemmas.Slice.Eq.{bytes_eq-Decides}
use Rattle.std.proofs.lemmas.List.{length-set}
use Rattle.std.proofs.lemmas.Bool.{false≢true}
use Rattle.fp_base.proofs.Options.{none_some}
use Rattle.fp_host.specs.Paths.{Elements, is_element}
use Rattle.fp_host.proofs.Separate.{path_cases}
use Rattle.ost_commit.specs.declared.row.TreeRow.{TreeRow}
use Rattle.ost_commit.specs.declared.tree.Child.{Child}
use Rattle.ost_commit.specs.declared.tree.Child.TheVariants as child
use Rattle.ost_commit.specs.declared.tree.Folder.{Folder}
use Rattle.ost_commit.specs.Rows.{Said, no_entry, a_directory}
use Rattle.ost_commit.specs.Refusals.{is_content}
use Rattle.ost_commit.specs.Folders.{At, child_in, child_said, put_at, with_entry, Gathers, HasNew}
use Rattle.ost_commit.proofs.Places.{at_within, at_one, set_cases, set_here, set_other, more_cases, more_left, more_right}
use Rattle.ost_commit.proofs.Saying.{entry_here, entry_elsewhere, entry_dir}

inner : (x y : List ℕ) (p q : Elements) → x ∷ p ≡ y ∷ q → (x ≡ y) × (p ≡ q)
inner x y p q e = (cc, cc)

pub num_cases : (a b : ℕ) → (a ≡ b) ⊎ (a ≢ b)
num_cases zero zero = inl refl
num_cases zero (suc b) = inr (λ e. absurd (omega (arith, e)))
num_cases (suc a) zero = inr (λ e. absurd (omega (arith, e)))
num_cases (suc a) (suc b) = elim (num_cases a b) [ inl e ↦ inl (ap suc e) | inr n ↦ inr (λ e. n (omega (arith, e))) ]

pub no≢dir : {A : Type 0} → no_entry ≡ a_directory → A
no≢dir e = absurd (cc e)

-- what is new after the directories that were there: one without a name in it, where a directory comes
pub record IsTail (folders : List Folder) (p : Elements) (v : Said) (c : Child) (tail : List Folder) : Type 0 where
  pub new : (k : ℕ) (g : Folder) → At tail k g → (k ≡ 0) × (g.path ≡ p) × ((y : List ℕ) → child_in g.children.entries y ≡ None) × (v ≡ a_directory)
  pub named : (m : ℕ) → c ≡ child.Folder m → (m ≡ length folders) × ((g : Folder) × At tail 0 g × (g.path ≡ p))

module _ (rows : List TreeRow) (said : Elements → Said) (folders : List Folder) (gathers : Gathers rows said folders)
    (i : ℕ) (f : Folder) (at : At folders i f) (x : List ℕ) (element : is_element x ≡ true) (none : said (x ∷ f.path) ≡ no_entry)
    (f' : Folder) (c : Child) (has : HasNew f f' x c) (tail : List Folder) (is_tail : IsTail folders (x ∷ f.path) (child_said rows (Some c)) c tail)
    (low : length (x ∷ f.path) ≤ 64 ⊎ (tail ≡ [])) (within : (k : ℕ) → c ≡ child.Content k → (k < length rows) × (is_content (put_at rows k) ≡ true)) where
  abbrev p : Elements
  p = x ∷ f.path

  abbrev v : Said
  v = child_said rows (Some c)

  abbrev after : Elements → Said
  after = with_entry said p v

  abbrev all : List Folder
  all = slice_set folders i f' ++ tail

  -- each place of before, with the same path
  old_at : (j : ℕ) (g : Folder) → At folders j g → (h : Folder) × At all j h × (h.path ≡ g.path)
  old_at j g a = elim (num_cases j i) [
    | inl e ↦ (
      f',
      more_left (slice_set folders i f') tail j f' (subst (λ n. At (slice_set folders i f') n f') (sym e) (set_here folders i f' (at_within folders i f at))),
      has.path ∙ ap (λ (h : Folder). h.path) (at_one folders i f g at (subst (λ n. At folders n g) e a)),
    )
    | inr n ↦ (g, more_left (slice_set folders i f') tail j g (set_other folders i f' j g n a), refl)
  ]

  -- a place holds what it held, or the directory with the new name, or the new directory
  cases : (j : ℕ) (g : Folder) → At all j g → ((j ≢ i) × At folders j g) ⊎ (((j ≡ i) × (f' ≡ g)) ⊎ ((j ≡ length folders) × ((k : ℕ) × At tail k g)))
  cases j g a = elim (more_cases (slice_set folders i f') tail j g a) [
    | inl k ↦ elim (set_cases folders i f' j g k) [ inl s ↦ inr (inl s) | inr o ↦ inl o ]
    | inr t ↦ inr (inr (omega (arith, t.1, (is_tail.new t.0 g t.2).0, length-set folders i f'), (t.0, t.2)))
  ]

  path_is : (g : Folder) → f' ≡ g → g.path ≡ f.path
  path_is g e = sym (ap (λ (h : Folder). h.path) e) ∙ has.path

  -- its path is one of before, or the new one
  was : (j : ℕ) (g : Folder) → At all j g → ((h : Folder) × At folders j h × (h.path ≡ g.path)) ⊎ ((j ≡ length folders) × (g.path ≡ p))
  was j g a = elim (cases j g a) [
    | inl o ↦ inl (g, o.1, refl)
    | inr r ↦ elim r [
      | inl s ↦ inl (f, subst (λ n. At folders n f) (sym s.0) at, sym (path_is g s.1))
      | inr t ↦ inr (t.0, (is_tail.new t.1.0 g t.1.1).1)
    ]
  ]

  not_said : said p ≡ a_directory → ⊥
  not_said h = no≢dir (sym none ∙ h)

  -- what the directory says of its names
  new_each : (y : List ℕ) → child_said rows (child_in f'.children.entries y) ≡ after (y ∷ f'.path)
  new_each y = ap (child_said rows) (has.children y) ∙ go (bytes_eq x y) (bytes_eq-Decides x y).0 (bytes_eq-Decides x y).1
    where
      go : (b : Bool) → (b ≡ true → x ≡ y) → (x ≡ y → b ≡ true) → child_said rows (if b then Some c else child_in f.children.entries y) ≡ after (y ∷ f'.path)
      go true d e = sym (ap after (ap (λ z. z ∷ f'.path) (sym (d refl)) ∙ ap (λ q. x ∷ q) has.path) ∙ entry_here said p v none)
      go false d e = gathers.each i f y at
          ∙ (sym (entry_elsewhere said p v (y ∷ f.path) (λ h. absurd (false≢true (e (sym (inner y x f.path f.path h).0))))) ∙ ap (λ q. after (y ∷ q)) (sym has.path))

  -- nothing is said in the new directory
  none_in : (y : List ℕ) → after (y ∷ p) ≡ no_entry
  none_in y = entry_elsewhere said p v (y ∷ p) (λ e. absurd (omega (arith, ap length e))) ∙ gathers.tree.closed y p not_said

  new_below : (j : ℕ) (y : List ℕ) (m : ℕ) → j ≡ i → child_in f'.children.entries y ≡ Some (child.Folder m) → (j < m) × ((h : Folder) × At all m h × (h.path ≡ y ∷ f.path))
  new_below j y m e is = go (bytes_eq x y) (bytes_eq-Decides x y).0 (sym (has.children y) ∙ is)
    where
      go : (b : Bool) → (b ≡ true → x ≡ y) → (if b then Some c else child_in f.children.entries y) ≡ Some (child.Folder m) → (j < m) × ((h : Folder) × At all m h × (h.path ≡ y ∷ f.path))
      go true d h =
          let n = is_tail.named m cc in (
            omega (arith, e, n.0, at_within folders i f at),
            (n.1.0, more_right (slice_set folders i f') tail m 0 n.1.0 (omega (arith, n.0, length-set folders i f')) n.1.1, n.1.2 ∙ ap (λ z. z ∷ f.path) (d refl)),
          )
      go false d h =
          let b = gathers.below i f y m at h in
          let o = old_at m b.1.0 b.1.1 in
          (omega (arith, e, b.0), (o.0, o.1, o.2 ∙ b.1.2))

  new_inside : (y : List ℕ) (k : ℕ) → child_in f'.children.entries y ≡ Some (child.Content k) → (k < length rows) × (is_content (put_at rows k) ≡ true)
  new_inside y k is = go (bytes_eq x y) (sym (has.children y) ∙ is)
    where
      go : (b : Bool) → (if b then Some c else child_in f.children.entries y) ≡ Some (child.Content k) → (k < length rows) × (is_content (put_at rows k) ≡ true)
      go true h = within k cc
      go false h = gathers.inside i f y k at h

  new_named : (y : List ℕ) (d : Child) → child_in f'.children.entries y ≡ Some d → is_element y ≡ true
  new_named y d is = go (bytes_eq x y) (bytes_eq-Decides x y).0 (sym (has.children y) ∙ is)
    where
      go : (b : Bool) → (b ≡ true → x ≡ y) → (if b then Some c else child_in f.children.entries y) ≡ Some d → is_element y ≡ true
      go true e h = subst (λ z. is_element z ≡ true) (e refl) element
      go false e h = gathers.named i f y d at h

  pub gathers_more : Gathers rows after all
  gathers_more = record {
    tree = record {
      root = entry_dir said p v [] gathers.tree.root;
      closed = λ y up n. elim (path_cases (y ∷ up) p) [
        | inl e ↦ absurd (n (entry_dir said p v up (subst (λ q. said q ≡ a_directory) (sym (inner y x up f.path e).1) (gathers.path i f at))))
        | inr d ↦ entry_elsewhere said p v (y ∷ up) d ∙ gathers.tree.closed y up (λ h. n (entry_dir said p v up h))
      ];
    };
    root = let r = gathers.root in let o = old_at 0 r.0 r.1 in (o.0, o.1, o.2 ∙ r.2);
    path = λ j g a. elim (cases j g a) [
      | inl o ↦ entry_dir said p v g.path (gathers.path j g o.1)
      | inr r ↦ elim r [
        | inl s ↦ entry_dir said p v g.path (subst (λ q. said q ≡ a_directory) (sym (path_is g s.1)) (gathers.path i f at))
        | inr t ↦ let n = is_tail.new t.1.0 g t.1.1 in ap after n.1 ∙ (entry_here said p v none ∙ n.3)
      ]
    ];
    shallow = λ j g a. elim (cases j g a) [
      | inl o ↦ gathers.shallow j g o.1
      | inr r ↦ elim r [
        | inl s ↦ subst (λ q. length q ≤ 64) (sym (path_is g s.1)) (gathers.shallow i f at)
        | inr t ↦ elim low [
          | inl l ↦ subst (λ q. length q ≤ 64) (sym (is_tail.new t.1.0 g t.1.1).1) l
          | inr e ↦ absurd (subst (λ l. At l t.1.0 g) e t.1.1)
        ]
      ]
    ];
    each = λ j g y a. elim (cases j g a) [
      | inl o ↦ gathers.each j g y o.1 ∙ sym (entry_elsewhere said p v (y ∷ g.path) (λ e. o.0 (gathers.apart j i g f o.1 at (inner y x g.path f.path e).1)))
      | inr r ↦ elim r [
        | inl s ↦ subst (λ (h : Folder). child_said rows (child_in h.children.entries y) ≡ after (y ∷ h.path)) s.1 (new_each y)
        | inr t ↦ let n = is_tail.new t.1.0 g t.1.1 in ap (child_said rows) (n.2 y) ∙ sym (ap (λ q. after (y ∷ q)) n.1 ∙ none_in y)
      ]
    ];
    below = λ j g y m a is. elim (cases j g a) [
      | inl o ↦ let b = gathers.below j g y m o.1 is in let h = old_at m b.1.0 b.1.1 in (b.0, (h.0, h.1, h.2 ∙ b.1.2))
      | inr r ↦ elim r [
        | inl s ↦
            let b = new_below j y m s.0 (ap (λ (h : Folder). child_in h.children.entries y) s.1 ∙ is) in
            (b.0, (b.1.0, b.1.1, b.1.2 ∙ ap (λ q. y ∷ q) (sym (path_is g s.1))))
        | inr t ↦ absurd (none_some (sym ((is_tail.new t.1.0 g t.1.1).2 y) ∙ is))
      ]
    ];
    apart = λ j m g h a b e. elim (was j g a) [
      | inl o ↦ elim (was m h b) [
        | inl q ↦ gathers.apart j m o.0 q.0 o.1 q.1 (o.2 ∙ (e ∙ sym q.2))
        | inr t ↦ absurd (not_said (subst (λ q. said q ≡ a_directory) (o.2 ∙ (e ∙ t.1)) (gathers.path j o.0 o.1)))
      ]
      | inr t ↦ elim (was m h b) [
        | inl q ↦ absurd (not_said (subst (λ q. said q ≡ a_directory) (q.2 ∙ (sym e ∙ t.1)) (gathers.path m q.0 q.1)))
        | inr u ↦ t.0 ∙ sym u.0
      ]
    ];
    inside = λ j g y k a is. elim (cases j g a) [
      | inl o ↦ gathers.inside j g y k o.1 is
      | inr r ↦ elim r [
        | inl s ↦ new_inside y k (ap (λ (h : Folder). child_in h.children.entries y) s.1 ∙ is)
        | inr t ↦ absurd (none_some (sym ((is_tail.new t.1.0 g t.1.1).2 y) ∙ is))
      ]
    ];
    named = λ j g y d a is. elim (cases j g a) [
      | inl o ↦ gathers.named j g y d o.1 is
      | inr r ↦ elim r [
        | inl s ↦ new_named y d (ap (λ (h : Folder). child_in h.children.entries y) s.1 ∙ is)
        | inr t ↦ absurd (none_some (sym ((is_tail.new t.1.0 g t.1.1).2 y) ∙ is))
      ]
    ];
  }
