-- What remotes hold after one more was put.
use Rattle.std.proofs.Common.{◌≡◌, ◌≢◌, inl, inr, ℕ, zero, suc, ◌<◌, ◌&&◌, ◌||◌, List, [], ◌∷◌, ◌++◌, length, get_or, set, take, Bool, true, false, cond, Option, Some, None, refl, sym, ◌∙◌, ap, subst, arith, string_bytes}
use Rattle.std.specs.List.{find, list_any, list_all}
use Rattle.std.specs.Option.{option_copied}
use Rattle.std.specs.Prelude.{IfSome, IsTrue, ◌↔◌, not}
use Rattle.std.specs.Borrow.{Bor}
use Rattle.std.specs.Str.{bytes_eq}
use mathlib.Core.Bool.{or-false, or-true}
use Rattle.std.proofs.lemmas.Bool.{cases_Bool, cond-true, cond-false, false≢true, and_parts, and_from, or_parts, or_cases, both_ways, false_from_ne_true, not-true, not_from_false}
use Rattle.std.proofs.lemmas.List.{append-nil}
use Rattle.std.proofs.lemmas.List.Folds.{list_any-append, list_all-append}
use Rattle.std.proofs.lemmas.Slice.Eq.{bytes_eq-Decides}
use Rattle.fp_host.specs.Paths.{Elements, path_eq}
use Rattle.fp_host.specs.Remote.{Held, directory}
use Rattle.fp_host.proofs.Separate.{path_decides}
use Rattle.fp_memhost.specs.declared.remotes.MemNode.{MemNode}
use Rattle.fp_memhost.specs.declared.remotes.MemNode.TheVariants.{File, Link}
use Rattle.fp_memhost.specs.declared.remotes.Row.{Row}
use Rattle.fp_memhost.specs.Folders.{is_above}
use Rattle.fp_memhost.specs.Holding.{node_held, node_bits, put_held, IsOpen, CanPut}
use Rattle.fp_memhost.specs.RemoteRows.{has_bits, is_row, row_at, covers, stands_over, held_in, held_of, IsRowAt, PutsRow}
use Rattle.fp_memhost.proofs.Finding.{find_here, set_hit, set_miss, append_hit, append_miss}

-- one url and path
abbrev is_key : List ℕ → Elements → List ℕ → Elements → Bool
is_key u q url p = bytes_eq u url && path_eq q p

pub record RowEdited (old new : List Row) (url : List ℕ) (p : Elements) (row : Row) : Type 0 where
  pub hit : (u : List ℕ) (q : Elements) → is_key u q url p ≡ true → row_at new u q ≡ Some row
  pub miss : (u : List ℕ) (q : Elements) → is_key u q url p ≡ false → row_at new u q ≡ row_at old u q
  pub over : (u : List ℕ) (q : Elements) → list_any (covers u q) new ≡ (list_any (covers u q) old || (bytes_eq u url && is_above q p))

-- the row of the key
pub record HasKey (u : List ℕ) (q : Elements) (row : Row) : Type 0 where
  pub url : string_bytes row.url ≡ u
  pub path : row.path ≡ q

key_of : {url : List ℕ} {p : Elements} {row : Row} → is_row url p row ≡ true → HasKey url p row
key_of {url = url} {p = p} {row = row} t =
    let parts = and_parts (bytes_eq url (string_bytes row.url)) (path_eq p row.path) t in
    record { url = sym ((bytes_eq-Decides url (string_bytes row.url)).0 parts.0); path = sym ((path_decides p row.path).0 parts.1) }

row_key : {url : List ℕ} {p : Elements} {row : Row} (u : List ℕ) (q : Elements) → HasKey url p row → is_row u q row ≡ is_key u q url p
row_key u q key i = bytes_eq u (key.url i) && path_eq q (key.path i)

row_covers : {url : List ℕ} {p : Elements} {row : Row} (u : List ℕ) (q : Elements) → HasKey url p row → covers u q row ≡ (bytes_eq u url && is_above q p)
row_covers u q key i = bytes_eq u (key.url i) && is_above q (key.path i)

-- a front without the key is one without any equal key
same_key : (u : List ℕ) (q : Elements) (url : List ℕ) (p : Elements) → is_key u q url p ≡ true → (u ≡ url) × (q ≡ p)
same_key u q url p t =
    let parts = and_parts (bytes_eq u url) (path_eq q p) t in
    ((bytes_eq-Decides u url).0 parts.0, (path_decides q p).0 parts.1)

none_at_key : (rows : List Row) (u : List ℕ) (q : Elements) (url : List ℕ) (p : Elements) → is_key u q url p ≡ true → row_at rows url p ≡ None → row_at rows u q ≡ None
none_at_key rows u q url p t none = let same = same_key u q url p t in (λ i. row_at rows (same.0 i) (same.1 i)) ∙ none

any_set : {A : Type 0} (t : A → Bool) (xs : List A) (i : ℕ) (y : A) → i < length xs → ((d : A) → t (get_or xs i d) ≡ t y) → list_any t (set xs i y) ≡ (list_any t xs || t y)
any_set t [] i y low same = absurd (omega arith)
any_set t (x ∷ xs) zero y low same = ap (λ b. b || list_any t xs) (sym (same x)) ∙ again (t x) (list_any t xs) ∙ ap (λ b. (t x || list_any t xs) || b) (same x)
  where
    again : (a b : Bool) → (a || b) ≡ ((a || b) || a)
    again true b = refl
    again false true = refl
    again false false = refl
any_set t (x ∷ xs) (suc i) y low same = ap (λ b. t x || b) (any_set t xs i y (omega arith) same) ∙ assoc (t x) (list_any t xs) (t y)
  where
    assoc : (a b c : Bool) → (a || (b || c)) ≡ ((a || b) || c)
    assoc true b c = refl
    assoc false b c = refl

pub row_set : (rows : List Row) (url : List ℕ) (p : Elements) (i : ℕ) (was row : Row) → IsRowAt rows url p i → was ≡ get_or rows i was → string_bytes row.url ≡ string_bytes was.url → row.path ≡ was.path → RowEdited rows (set rows i row) url p row
row_set rows url p i was row is read same_url same_path =
    let key_was : HasKey url p was = key_of (subst (λ (r : Row). is_row url p r ≡ true) (sym read) (is.here was)) in
    let key : HasKey url p row = record { url = same_url ∙ key_was.url; path = same_path ∙ key_was.path } in
    let there : (d : Row) → HasKey url p (get_or rows i d) = λ d. key_of (is.here d) in
    record {
      hit = λ u q t. set_hit (is_row u q) rows i row is.low (none_at_key (take i rows) u q url p t is.before) (row_key u q key ∙ t);
      miss = λ u q f. set_miss (is_row u q) rows i row row (row_key u q (there row) ∙ f) (row_key u q key ∙ f);
      over = λ u q. any_set (covers u q) rows i row is.low (λ d. row_covers u q (there d) ∙ sym (row_covers u q key)) ∙ ap (λ b. list_any (covers u q) rows || b) (row_covers u q key);
    }

pub row_push : (rows : List Row) (url : List ℕ) (p : Elements) (row : Row) → row_at rows url p ≡ None → HasKey url p row → RowEdited rows (rows ++ row ∷ []) url p row
row_push rows url p row none key = record {
  hit = λ u q t. append_hit (is_row u q) rows [] row (none_at_key rows u q url p t none) (row_key u q key ∙ t);
  miss = λ u q f. append_miss (is_row u q) rows [] row (row_key u q key ∙ f) ∙ ap (find (is_row u q)) (append-nil rows);
  over = λ u q. list_any-append (covers u q) rows (row ∷ []) ∙ ap (λ b. list_any (covers u q) rows || b) (or_false (covers u q row) ∙ row_covers u q key);
}
  where
    or_false : (a : Bool) → (a || false) ≡ a
    or_false true = refl
    or_false false = refl

-- what is held then
leaf : (node : MemNode) → IsOpen (node_held node) → ⊥
leaf (File mode bytes) is = is
leaf (Link text) is = is

held_open : (o : Option Row) (b : Bool) → IsOpen (held_in o b) → o ≡ None
held_open None b is = refl
held_open (Some row) b is = absurd (leaf row.node is)

puts_by : (a k v : Bool) (now was : Option Row) (over had : Bool) (row : Row) → ((a && k) ≡ true → now ≡ Some row) → ((a && k) ≡ false → now ≡ was) → over ≡ (had || (a && v)) → (v ≡ true → a ≡ true → IsOpen (held_in was had))
    → held_in now over ≡ cond a (cond k (node_held row.node) (cond v directory (held_in was had))) (held_in was had)
puts_by true true v now was over had row hit miss cov open_above = ap (λ (o : Option Row). held_in o over) (hit refl)
puts_by true false true now was over had row hit miss cov open_above = (λ i. held_in (miss refl i) (cov i)) ∙ (λ i. held_in (held_open was had (open_above refl refl) i) (or-true had i))
puts_by true false false now was over had row hit miss cov open_above = λ i. held_in (miss refl i) ((cov ∙ or-false had) i)
puts_by false k v now was over had row hit miss cov open_above = λ i. held_in (miss refl i) ((cov ∙ or-false had) i)

pub puts_held : {old new : List Row} {url : List ℕ} {p : Elements} {row : Row} → RowEdited old new url p row → (u : List ℕ) (q : Elements) → (is_above q p ≡ true → bytes_eq u url ≡ true → IsOpen (held_of old u q)) → held_of new u q ≡ put_held (held_of old) url p (node_held row.node) u q
puts_held {old = old} {new = new} {url = url} {p = p} {row = row} edit u q open_above =
    puts_by (bytes_eq u url) (path_eq q p) (is_above q p) (row_at new u q) (row_at old u q) (list_any (covers u q) new) (list_any (covers u q) old) row (edit.hit u q) (edit.miss u q) (edit.over u q) open_above

-- the bits stay good
bits_set : (rows : List Row) (i : ℕ) (row : Row) → list_all has_bits rows ≡ true → has_bits row ≡ true → list_all has_bits (set rows i row) ≡ true
bits_set [] i row all is = refl
bits_set (x ∷ xs) zero row all is = and_from (has_bits row) (list_all has_bits xs) is (and_parts (has_bits x) (list_all has_bits xs) all).1
bits_set (x ∷ xs) (suc i) row all is = let parts = and_parts (has_bits x) (list_all has_bits xs) all in and_from (has_bits x) (list_all has_bits (set xs i row)) parts.0 (bits_set xs i row parts.1 is)

bits_push : (rows : List Row) (row : Row) → list_all has_bits rows ≡ true → has_bits row ≡ true → list_all has_bits (rows ++ row ∷ []) ≡ true
bits_push rows row all is = list_all-append has_bits rows (row ∷ []) ∙ and_from (list_all has_bits rows) (has_bits row && true) all (and_from (has_bits row) true is refl)

pub puts_set : (rows xs : List Row) (url : List ℕ) (p : Elements) (i : ℕ) (was row : Row) → IsRowAt xs url p i → xs ≡ rows → was ≡ get_or rows i was → string_bytes row.url ≡ string_bytes was.url → row.path ≡ was.path → PutsRow url p row.node rows (set rows i row)
puts_set rows xs url p i was row is same read su sp = record {
  held = puts_held (row_set rows url p i was row (subst (λ (l : List Row). IsRowAt l url p i) same is) read su sp);
  bits = λ all b. bits_set rows i row all b;
}

pub puts_push : (rows xs : List Row) (url : List ℕ) (p : Elements) (row : Row) → row_at xs url p ≡ None → xs ≡ rows → string_bytes row.url ≡ url → row.path ≡ p → PutsRow url p row.node rows (rows ++ row ∷ [])
puts_push rows xs url p row none same su sp = record {
  held = puts_held (row_push rows url p row (subst (λ (l : List Row). row_at l url p ≡ None) same none) (record { url = su; path = sp }));
  bits = λ all b. bits_push rows row all b;
}

pub row_there : (rows : List Row) (url : List ℕ) (p : Elements) (i : ℕ) (d : Row) → IsRowAt rows url p i → row_at rows url p ≡ Some (get_or rows i d)
row_there rows url p i d is = find_here (is_row url p) rows i d is.low is.before (is.here d)

-- a row that is found has good bits
bits_found : (rows : List Row) (u : List ℕ) (q : Elements) (row : Row) → list_all has_bits rows ≡ true → row_at rows u q ≡ Some row → has_bits row ≡ true
bits_found [] u q row all is = absurd (cc is)
bits_found (x ∷ xs) u q row all is =
    let parts = and_parts (has_bits x) (list_all has_bits xs) all in
    elim (cases_Bool (is_row u q x)) [
      | inl t ↦ let same : x ≡ row = cc (sym (cond-true (is_row u q x) (Some x) (row_at xs u q) t) ∙ is) in subst (λ (r : Row). has_bits r ≡ true) same parts.0
      | inr f ↦ bits_found xs u q row parts.1 (sym (cond-false (is_row u q x) (Some x) (row_at xs u q) f) ∙ is)
    ]

pub bits_of : (rows xs : List Row) (u : List ℕ) (q : Elements) (o : Option (Bor Row)) → xs ≡ rows → option_copied o ≡ row_at xs u q → list_all has_bits rows ≡ true → IfSome o (λ (r : Bor Row). has_bits r.now ≡ true)
bits_of rows xs u q None same is all = tt
bits_of rows xs u q (Some r) same is all = bits_found rows u q r.now all (ap (λ (l : List Row). row_at l u q) (sym same) ∙ sym is)

-- a folder is no file or symlink
leaf_no_folder : (node : MemNode) → node_held node ≡ directory → ⊥
leaf_no_folder (File mode bytes) is = cc is
leaf_no_folder (Link text) is = cc is

pub folder_some : (rows : List Row) (u : List ℕ) (q : Elements) (row : Row) → Some row ≡ row_at rows u q → IsTrue false ↔ (held_of rows u q ≡ directory)
folder_some rows u q row is = (λ t. absurd (false≢true t), λ d. absurd (leaf_no_folder row.node (ap (λ (o : Option Row). held_in o (list_any (covers u q) rows)) is ∙ d)))

pub folder_none : (rows : List Row) (u : List ℕ) (q : Elements) (b : Bool) → None ≡ row_at rows u q → b ≡ list_any (covers u q) rows → IsTrue b ↔ (held_of rows u q ≡ directory)
folder_none rows u q b is tells = by_any b (sym ((λ i. held_in (sym is i) (sym tells i))))
  where
    by_any : (b : Bool) → held_in None b ≡ held_of rows u q → IsTrue b ↔ (held_of rows u q ≡ directory)
    by_any true same = (λ t. sym same, λ d. refl)
    by_any false same = (λ t. absurd (false≢true t), λ d. absurd (cc (same ∙ d)))

-- nothing stands over the path exactly where each path above it is open
open_at : (rows : List Row) (url : List ℕ) (p q : Elements) → list_any (stands_over url p) rows ≡ false → is_above q p ≡ true → row_at rows url q ≡ None
open_at [] url p q none above = refl
open_at (x ∷ xs) url p q none above =
    let parts = or_parts (stands_over url p x) (list_any (stands_over url p) xs) none in
    cond-false (is_row url q x) _ _ (false_from_ne_true (is_row url q x) (λ t.
    let both = and_parts (bytes_eq url (string_bytes x.url)) (path_eq q x.path) t in
    both_ways (stands_over url p x) parts.0 (and_from (bytes_eq url (string_bytes x.url)) (is_above x.path p) both.0 (subst (λ (r : Elements). is_above r p ≡ true) ((path_decides q x.path).0 both.1) above))))
    ∙ open_at xs url p q parts.1 above

is_open : (b : Bool) → IsOpen (held_in None b)
is_open true = tt
is_open false = tt

leaf_over : (rows : List Row) (url : List ℕ) (p : Elements) → list_any (stands_over url p) rows ≡ true → (q : Elements) × (is_above q p ≡ true) × ((row_at rows url q ≡ None) → ⊥)
leaf_over [] url p some = absurd (false≢true some)
leaf_over (x ∷ xs) url p some = elim (or_cases (stands_over url p x) (list_any (stands_over url p) xs) some) [
  | inl here ↦
      let both = and_parts (bytes_eq url (string_bytes x.url)) (is_above x.path p) here in
      (x.path, both.1, λ none. cc (sym (cond-true (is_row url x.path x) (Some x) (row_at xs url x.path) (and_from (bytes_eq url (string_bytes x.url)) (path_eq x.path x.path) both.0 ((path_decides x.path x.path).1 refl))) ∙ none))
  | inr later ↦
      let rest = leaf_over xs url p later in
      (rest.0, rest.1, λ none. rest.2 (first_none (is_row url rest.0 x) none))
]
  where
    first_none : {o : Option Row} (b : Bool) → cond b (Some x) o ≡ None → o ≡ None
    first_none true is = absurd (cc is)
    first_none false is = is

pub can_put_is : (rows xs : List Row) (url : List ℕ) (p : Elements) (node : MemNode) (r : Bool) → xs ≡ rows → p ≢ [] → node_bits node ≡ true → held_of rows url p ≢ directory → r ≡ list_any (stands_over url p) xs → IsTrue (not r) ↔ CanPut (held_of rows url) p node
can_put_is rows xs url p node r same root bits folder tells =
    let is : r ≡ list_any (stands_over url p) rows = tells ∙ ap (list_any (stands_over url p)) same in (
      λ t. record {
        no_root = root;
        no_folder = folder;
        open_above = λ q above. subst (λ (o : Option Row). IsOpen (held_in o (list_any (covers url q) rows))) (sym (open_at rows url p q (sym is ∙ not-true r t) above)) (is_open (list_any (covers url q) rows));
        bits = bits;
      },
      λ can. not_from_false r (false_from_ne_true r (λ t.
          let over = leaf_over rows url p (sym is ∙ t) in
          over.2 (held_open (row_at rows url over.0) (list_any (covers url over.0) rows) (can.open_above over.0 over.1)))),
    )

pub cannot_put : (held : Elements → Held) (p : Elements) (node : MemNode) → (CanPut held p node → ⊥) → IsTrue false ↔ CanPut held p node
cannot_put held p node bad = (λ t. absurd (false≢true t), λ can. absurd (bad can))
