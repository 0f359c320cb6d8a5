-- Entries that come one after another.
use Rattle.std.proofs.Common.{◌≡◌, ◌⊎◌, inl, inr, List, [], ◌∷◌, ◌++◌, Bool, true, false, cond, Option, Some, None, refl, sym, ◌∙◌, ap, subst, append_assoc, Bor}
use Rattle.std.specs.Prelude.{◌||◌, IfSome}
use Rattle.std.specs.Option.{option_or, option_copied}
use Rattle.std.specs.List.{list_any, list_all}
use mathlib.Core.Bool.{or-false, or-true}
use Rattle.std.proofs.lemmas.Bool.{cases_Bool, cond-true, cond-false, and_parts}
use Rattle.std.proofs.lemmas.List.{append-nil}
use Rattle.std.proofs.lemmas.List.Folds.{find-append, list_any-append}
use Rattle.fp_base.proofs.Options.{or_alone}
use Rattle.fp_host.specs.Paths.{Elements, path_eq}
use Rattle.fp_host.specs.Outcome.{Spot}
use Rattle.fp_host.proofs.Separate.{path_decides}
use Rattle.ost_model.proofs.Members.{in_cases}
use Rattle.ost_commit.specs.Rows.{is_above}
use Rattle.fl_gen.specs.declared.store.Row.{Row}
use Rattle.fl_gen.specs.Stores.{Entry, entry_spot, has_below, AreSettled}
use Rattle.fl_gen.specs.Keeping.{has_bits, is_row, covers, row_at, row_spot, row_spot_of, spot_in, leaf_spot, Keeps, Adds}

-- ---- options and tests

or_cond : {A : Type 0} (b : Bool) (s : A) (a c : Option A) → cond b (Some s) (option_or a c) ≡ option_or (cond b (Some s) a) c
or_cond true s a c = refl
or_cond false s a c = refl

map_or : (a b : Option Row) → row_spot_of (option_or a b) ≡ option_or (row_spot_of a) (row_spot_of b)
map_or None b = refl
map_or (Some x) b = refl

map_cond : (b : Bool) (row : Row) → row_spot_of (cond b (Some row) None) ≡ cond b (Some (row_spot row)) None
map_cond true row = refl
map_cond false row = refl

-- ---- one entry more

abbrev entry_of : Row → Entry
entry_of row = (row.path, row_spot row)

found_more : (es : List Entry) (e : Entry) (q : Elements) → entry_spot (es ++ e ∷ []) q ≡ option_or (entry_spot es q) (entry_spot (e ∷ []) q)
found_more [] e q = refl
found_more (x ∷ es) e q = ap (cond (path_eq q x.0) (Some x.1)) (found_more es e q) ∙ or_cond (path_eq q x.0) x.1 (entry_spot es q) (entry_spot (e ∷ []) q)

here : (e : Entry) → entry_spot (e ∷ []) e.0 ≡ Some e.1
here e = cond-true (path_eq e.0 e.0) (Some e.1) None ((path_decides e.0 e.0).1 refl)

-- what an entry stands below is a folder
below_found : (es : List Entry) (p q : Elements) (s : Spot) → entry_spot es p ≡ Some s → is_above q p ≡ true → has_below es q ≡ true
below_found [] p q s is above = absurd (cc is)
below_found (x ∷ es) p q s is above = elim (cases_Bool (path_eq p x.0)) [
  | inl same ↦
      let one : is_above q x.0 ≡ true = ap (is_above q) (sym ((path_decides p x.0).0 same)) ∙ above in
      ap (λ (b : Bool). b || has_below es q) one
  | inr other ↦
      let rest = below_found es p q s (sym (cond-false (path_eq p x.0) (Some x.1) (entry_spot es p) other) ∙ is) above in
      ap (λ (b : Bool). is_above q x.0 || b) rest ∙ or-true (is_above q x.0)
]

-- it is new at its path, or the same stands there
settled_more : (es : List Entry) (e : Entry) → AreSettled es → (entry_spot es e.0 ≡ None) ⊎ (entry_spot es e.0 ≡ Some e.1) → AreSettled (es ++ e ∷ [])
settled_more es e settled was = record {
  each = λ x has. elim (in_cases es e x has) [
    | inl old ↦ found_more es e x.0 ∙ ap (λ (o : Option Spot). option_or o (entry_spot (e ∷ []) x.0)) (settled.each x old)
    | inr is ↦ subst (λ (y : Entry). entry_spot (es ++ e ∷ []) y.0 ≡ Some y.1) is (own was)
  ];
}
  where
    own : (entry_spot es e.0 ≡ None) ⊎ (entry_spot es e.0 ≡ Some e.1) → entry_spot (es ++ e ∷ []) e.0 ≡ Some e.1
    own (inl none) = found_more es e e.0 ∙ (ap (λ (o : Option Spot). option_or o (entry_spot (e ∷ []) e.0)) none ∙ here e)
    own (inr some) = found_more es e e.0 ∙ ap (λ (o : Option Spot). option_or o (entry_spot (e ∷ []) e.0)) some

-- ---- a row more

module _ (rows : List Row) (row : Row) where
  spot_more : (q : Elements) → spot_in (rows ++ row ∷ []) q ≡ option_or (spot_in rows q) (entry_spot (entry_of row ∷ []) q)
  spot_more q =
      ap row_spot_of (find-append (is_row q) rows (row ∷ []))
      ∙ (map_or (row_at rows q) (row_at (row ∷ []) q)
      ∙ ap (option_or (spot_in rows q)) (map_cond (path_eq q row.path) row))

  folder_more : (es : List Entry) (q : Elements) → list_any (covers q) rows ≡ has_below es q → list_any (covers q) (rows ++ row ∷ []) ≡ has_below (es ++ entry_of row ∷ []) q
  folder_more es q same =
      list_any-append (covers q) rows (row ∷ [])
      ∙ (ap (λ (b : Bool). b || (is_above q row.path || false)) same
      ∙ sym (list_any-append (λ (e : Entry). is_above q e.0) es (entry_of row ∷ [])))

  pub adds_pushed : row_at rows row.path ≡ None → Adds ((row.path, leaf_spot row.leaf) ∷ []) rows (rows ++ row ∷ [])
  adds_pushed none = record {
    after = λ es keeps. record {
      spots = λ q. spot_more q ∙ (ap (λ (o : Option Spot). option_or o (entry_spot (entry_of row ∷ []) q)) (keeps.spots q) ∙ sym (found_more es (entry_of row) q));
      folders = λ q. folder_more es q (keeps.folders q);
      settled = settled_more es (entry_of row) keeps.settled (inl (sym (keeps.spots row.path) ∙ ap row_spot_of none));
    };
  }

-- ---- the same once more

module _ (es : List Entry) (e : Entry) (there : entry_spot es e.0 ≡ Some e.1) where
  found_again : (q : Elements) → entry_spot es q ≡ entry_spot (es ++ e ∷ []) q
  found_again q = elim (cases_Bool (path_eq q e.0)) [
    | inl same ↦
        let hit : entry_spot es q ≡ Some e.1 = ap (entry_spot es) ((path_decides q e.0).0 same) ∙ there in
        hit ∙ sym (found_more es e q ∙ ap (λ (o : Option Spot). option_or o (entry_spot (e ∷ []) q)) hit)
    | inr other ↦
        let miss : entry_spot (e ∷ []) q ≡ None = cond-false (path_eq q e.0) (Some e.1) None other in
        sym (found_more es e q ∙ (ap (option_or (entry_spot es q)) miss ∙ or_alone (entry_spot es q)))
  ]

  below_again : (q : Elements) → has_below es q ≡ has_below (es ++ e ∷ []) q
  below_again q =
      sym (list_any-append (λ (x : Entry). is_above q x.0) es (e ∷ [])
      ∙ elim (cases_Bool (is_above q e.0)) [
        | inl above ↦ let one = below_found es e.0 q e.1 there above in ap (λ (b : Bool). b || (is_above q e.0 || false)) one ∙ sym one
        | inr off ↦ ap (λ (b : Bool). has_below es q || (b || false)) off ∙ or-false (has_below es q)
      ])

pub adds_again : (rows : List Row) (p : Elements) (s : Spot) (row : Row) → row_at rows p ≡ Some row → row_spot row ≡ s → Adds ((p, s) ∷ []) rows rows
adds_again rows p s row there same = record {
  after = λ es keeps. record {
    spots = λ q. keeps.spots q ∙ found_again es (p, s) (was es keeps) q;
    folders = λ q. keeps.folders q ∙ below_again es (p, s) (was es keeps) q;
    settled = settled_more es (p, s) keeps.settled (inr (was es keeps));
  };
}
  where
    was : (es : List Entry) → Keeps es rows → entry_spot es p ≡ Some s
    was es keeps = sym (keeps.spots p) ∙ (ap row_spot_of there ∙ ap (λ (x : Spot). Some x) same)

-- ---- runs

pub adds_none : (rows : List Row) → Adds [] rows rows
adds_none rows = record { after = λ es keeps. subst (λ (l : List Entry). Keeps l rows) (sym (append-nil es)) keeps }

pub adds_on : {xs ys : List Entry} {s t u : List Row} → Adds xs s t → Adds ys t u → Adds (xs ++ ys) s u
adds_on {xs = xs} {ys = ys} {u = u} first second = record { after = λ es keeps. subst (λ (l : List Entry). Keeps l u) (append_assoc es xs ys) (second.after (es ++ xs) (first.after es keeps)) }

pub keeps_nothing : Keeps [] []
keeps_nothing = record { spots = λ q. refl; folders = λ q. refl; settled = record { each = λ e has. absurd has } }

-- ---- answers

pub adds_as : {p q : Elements} {s t : Spot} {old new : List Row} → p ≡ q → s ≡ t → Adds ((p, s) ∷ []) old new → Adds ((q, t) ∷ []) old new
adds_as {q = q} {s = s} {old = old} {new = new} same like adds = subst (λ x. Adds ((q, x) ∷ []) old new) like (subst (λ x. Adds ((x, s) ∷ []) old new) same adds)

-- ---- the permission bits of a row

bits_found : (rows : List Row) (q : Elements) (row : Row) → list_all has_bits rows ≡ true → Some row ≡ row_at rows q → has_bits row ≡ true
bits_found [] q row all is = absurd (cc is)
bits_found (x ∷ xs) q row all is =
    let parts = and_parts (has_bits x) (list_all has_bits xs) all in
    elim (cases_Bool (is_row q x)) [
      | inl same ↦
          let one : Some x ≡ Some row = sym (cond-true (is_row q x) (Some x) (row_at xs q) same) ∙ sym is in
          let own : x ≡ row = cc one in
          ap has_bits (sym own) ∙ parts.0
      | inr other ↦ bits_found xs q row parts.1 (is ∙ cond-false (is_row q x) (Some x) (row_at xs q) other)
    ]

pub bits_of : (rows xs : List Row) (q : Elements) (o : Option (Bor Row)) → xs ≡ rows → option_copied o ≡ row_at xs q → list_all has_bits rows ≡ true → IfSome o (λ (r : Bor Row). has_bits r.now ≡ true)
bits_of rows xs q None same is all = tt
bits_of rows xs q (Some r) same is all = bits_found rows q r.now all (is ∙ ap (λ (l : List Row). row_at l q) same)
