-- Paths cut from below, and a row that is put into its directory.
use Rattle.std.proofs.Common.{◌≡◌, ◌<◌, ◌≤◌, ◌+◌, ◌-◌, ℕ, zero, suc, List, [], ◌∷◌, length, drop, Bool, true, false, not, refl, sym, ◌∙◌, ap, subst, arith}
use Rattle.std.specs.Prelude.{if◌then◌else◌, ◌&&◌, ◌||◌, leb}
use Rattle.std.proofs.lemmas.Bool.{false≢true, leb-true, and_parts}
use Rattle.fp_host.specs.Paths.{Elements, path_eq}
use Rattle.ost_commit.specs.declared.limits.TheConstants.{MOST_NAMES}
use Rattle.ost_commit.specs.declared.row.TreeRow.{TreeRow}
use Rattle.ost_commit.specs.declared.row.TreeRow.TheVariants as row
use Rattle.ost_commit.specs.declared.tree.Tree.{Tree}
use Rattle.ost_commit.specs.Rows.{Said, no_entry, a_directory, content, row_path, put_by, is_above, first_said}
use Rattle.ost_commit.specs.Refusals.{is_good_row, is_nothing, is_content, may_stand, is_clear, new_names, is_taken}
use Rattle.ost_commit.specs.Folders.{with_entry, with_above, with_row, Gathers, new_root_at, Entered, Reached, TakesFolder, TakesContent, PutsRow, Takes}
use Rattle.ost_commit.proofs.Counting.{counts_both}
use Rattle.ost_commit.proofs.Saying.{or_nothing, first_assoc}
use Rattle.ost_commit.proofs.Entering.{gathers_same, above_same, above_step, row_step, dir_row_step, unclear, content_next, reached_next}

drop_next : (n : ℕ) (p : Elements) → n < length p → (x : List ℕ) × (drop n p ≡ x ∷ drop (suc n) p)
drop_next n [] low = absurd (omega (arith, low))
drop_next zero (x ∷ p) low = (x, refl)
drop_next (suc n) (x ∷ p) low = drop_next n p (omega (arith, low))

-- one element more
pub next_up : (u : ℕ) (p : Elements) → 1 < u → u ≤ length p → (x : List ℕ) × (drop (u - 1) p ≡ x ∷ drop u p)
next_up u p low high =
    let n = drop_next (u - 1) p (omega (arith, low, high)) in
    let same : suc (u - 1) ≡ u = omega (arith, low) in
    (n.0, n.1 ∙ ap (λ k. n.0 ∷ drop k p) same)

pub drop_all : (p : Elements) → drop (length p) p ≡ []
drop_all [] = refl
drop_all (x ∷ p) = drop_all p

pub names_few : (said : Elements → Said) (p : Elements) → new_names said p ≤ length p
names_few said [] = omega arith
names_few said (x ∷ up) = go (is_nothing (said (x ∷ up))) (names_few said up)
  where
    go : (b : Bool) → new_names said up ≤ length up → (if b then 1 else 0) + new_names said up ≤ length (x ∷ up)
    go true h = omega (arith, h)
    go false h = omega (arith, h)

-- ---- the directories above a path, from the root down

pub reached_drop : (rows : List TreeRow) (said : Elements → Said) (u : ℕ) (path : Elements) (old mid new : Tree) (i j : ℕ) → 1 < u → u ≤ length path → Reached rows said (drop u path) old mid i
    → Entered rows (with_above said (drop u path)) (drop (u - 1) path) mid new j → Reached rows said (drop (u - 1) path) old new j
reached_drop rows said u path old mid new i j low high r e =
    let n = next_up u path low high in
    subst (λ p. Reached rows said p old new j) (sym n.1)
    (reached_next rows said n.0 (drop u path) old mid new i j r (subst (λ p. Entered rows (with_above said (drop u path)) p mid new j) n.1 e))

pub content_drop : (rows : List TreeRow) (said : Elements → Said) (u : ℕ) (path : Elements) → said [] ≡ a_directory → 1 < u → u ≤ length path
    → is_content (with_above said (drop u path) (drop (u - 1) path)) ≡ true → is_clear said path ≡ false
content_drop rows said u path root low high h =
    let n = next_up u path low high in
    let there = content_next rows said n.0 (drop u path) (subst (λ p. is_content (with_above said (drop u path) p) ≡ true) n.1 h) in
    let same : suc (u - 2) ≡ u - 1 = omega (arith, low) in
    unclear said path (u - 2) root (subst (λ k. is_content (said (drop k path)) ≡ true) (sym same) (subst (λ p. is_content (said p) ≡ true) (sym n.1) there))

pub reached_end : (rows : List TreeRow) (said : Elements → Said) (u : ℕ) (path : Elements) (old new : Tree) (j : ℕ) → u ≤ 1 → (u ≡ 0 → path ≡ []) → Reached rows said (drop u path) old new j
    → Reached rows said (drop 1 path) old new j
reached_end rows said zero path old new j low begun r = let root = begun refl in subst (λ p. Reached rows said (drop 1 p) old new j) (sym root) (subst (λ p. Reached rows said p old new j) root r)
reached_end rows said (suc zero) path old new j low begun r = r
reached_end rows said (suc (suc u)) path old new j low begun r = absurd (omega (arith, low))

-- ---- one row

from_nothing : (s : Said) → is_nothing s ≡ true → s ≡ no_entry
from_nothing no_entry h = refl
from_nothing a_directory h = absurd (false≢true h)
from_nothing (content d) h = absurd (false≢true h)

abbrev Both : List TreeRow → (Elements → Said) → TreeRow → Elements → Type 0
Both rows said r p = (said p ≡ with_above said (drop 1 p) p) × (new_names said (drop 1 p) + new_root_at (with_above said (drop 1 p)) p ≡ new_names said p)

root_same : (said : Elements → Said) → said [] ≡ a_directory → said [] ≡ with_above said [] []
root_same said root = root ∙ sym (ap (λ s. first_said s (if path_eq [] [] || is_above [] [] then a_directory else no_entry)) root)

-- what is said at the path, and how many names come, does not change with the directories above it
same_there : (rows : List TreeRow) (said : Elements → Said) (r : TreeRow) (p : Elements) → said [] ≡ a_directory → Both rows said r p
same_there rows said r [] root = (root_same said root, refl)
same_there rows said r (x ∷ up) root = (sym (above_same said x up), let one : (if is_nothing (with_above said up (x ∷ up)) then 1 else 0) ≡ (if is_nothing (said (x ∷ up)) then 1 else 0) = ap {B = ℕ} (λ s. if is_nothing s then 1 else 0) (above_same said x up) in omega (arith, one))

-- a directory row of the root changes nothing
root_row : (said : Elements → Said) → said [] ≡ a_directory → (q : Elements) → with_entry (with_above said []) [] a_directory q ≡ with_row said (row.Dir []) q
root_row said root q = go (path_eq q [])
  where
    go : (b : Bool) → first_said (first_said (said q) (if b || false then a_directory else no_entry)) (if b then a_directory else no_entry) ≡ first_said (said q) (if b then a_directory else (if false then a_directory else no_entry))
    go true = sym (first_assoc (said q) a_directory a_directory)
    go false = or_nothing (first_said (said q) no_entry)

dir_row : (said : Elements → Said) (p : Elements) → said [] ≡ a_directory → (q : Elements) → with_entry (with_above said (drop 1 p)) p a_directory q ≡ with_row said (row.Dir p) q
dir_row said [] root q = root_row said root q
dir_row said (x ∷ up) root q = above_step said x up q ∙ dir_row_step said (x ∷ up) q

content_row : (said : Elements → Said) (r : TreeRow) (p : Elements) → row_path r ≡ p → said [] ≡ a_directory → is_nothing (said p) ≡ true → (q : Elements) → with_entry (with_above said (drop 1 p)) p (put_by r) q ≡ with_row said r q
content_row said r [] is root none q = absurd (false≢true (sym (ap is_nothing root) ∙ none))
content_row said r (x ∷ up) is root none q = row_step said r x up is (from_nothing (said (x ∷ up)) none) q

-- what the row puts after the directories above it is what it says
pub row_said : (said : Elements → Said) (r : TreeRow) → said [] ≡ a_directory → may_stand r (said (row_path r)) ≡ true → (q : Elements) → with_entry (with_above said (drop 1 (row_path r))) (row_path r) (put_by r) q ≡ with_row said r q
row_said said (row.Dir p) root may q = dir_row said p root q
row_said said (row.File p mode bytes) root may q = content_row said (row.File p mode bytes) p refl root may q
row_said said (row.Link p target) root may q = content_row said (row.Link p target) p refl root may q

pub takes_row : (rows : List TreeRow) (said : Elements → Said) (r : TreeRow) (old mid new : Tree) (folder : ℕ) (taken b : Bool) → Gathers rows said old.folders.items → is_good_row r ≡ true
    → is_clear said (row_path r) ≡ true → Reached rows said (drop 1 (row_path r)) old mid folder → PutsRow rows (with_above said (drop 1 (row_path r))) r mid new taken → b ≡ (taken && leb new.names MOST_NAMES) → Takes rows said r old new b
takes_row rows said r old mid new folder taken b g good clear reached puts is =
    let root = g.tree.root in
    let both = same_there rows said r (row_path r) root in
    let stands : taken ≡ may_stand r (said (row_path r)) = puts.is ∙ ap (may_stand r) (sym both.0) in
    let count : taken ≡ true → new.names ≡ old.names + new_names said (row_path r) = λ t. let h = puts.names t in omega (arith, h, reached.names, both.1) in
    record {
      is = is ∙ (all taken stands count ∙ ap (λ c. c && (is_clear said (row_path r) && (may_stand r (said (row_path r)) && leb (old.names + new_names said (row_path r)) MOST_NAMES))) (sym good));
      gathers = λ t. let h = (and_parts taken (leb new.names MOST_NAMES) (sym is ∙ t)).0 in
          gathers_same rows (with_entry (with_above said (drop 1 (row_path r))) (row_path r) (put_by r)) (with_row said r) new.folders.items (row_said said r root (sym stands ∙ h)) (puts.gathers h);
      names = λ t. count (and_parts taken (leb new.names MOST_NAMES) (sym is ∙ t)).0;
      counts = λ t. counts_both old mid new reached.counts (puts.counts (and_parts taken (leb new.names MOST_NAMES) (sym is ∙ t)).0);
    }
  where
    all : (t : Bool) → t ≡ may_stand r (said (row_path r)) → (t ≡ true → new.names ≡ old.names + new_names said (row_path r))
        → (t && leb new.names MOST_NAMES) ≡ (is_clear said (row_path r) && (may_stand r (said (row_path r)) && leb (old.names + new_names said (row_path r)) MOST_NAMES))
    all false s n = ap (λ m. m && leb (old.names + new_names said (row_path r)) MOST_NAMES) s ∙ ap (λ k. k && (may_stand r (said (row_path r)) && leb (old.names + new_names said (row_path r)) MOST_NAMES)) (sym clear)
    all true s n = ap (λ k. leb k MOST_NAMES) (n refl) ∙ (ap (λ m. m && leb (old.names + new_names said (row_path r)) MOST_NAMES) s ∙ ap (λ k. k && (may_stand r (said (row_path r)) && leb (old.names + new_names said (row_path r)) MOST_NAMES)) (sym clear))

-- a directory, or a file or a link
pub puts_dir : (rows : List TreeRow) (said : Elements → Said) (p : Elements) (old new : Tree) (taken : Bool) → TakesFolder rows said p old new taken → PutsRow rows said (row.Dir p) old new taken
puts_dir rows said p old new taken t = record { is = t.is; gathers = t.gathers; names = t.names; counts = t.counts }

one_name : (said : Elements → Said) (p : Elements) → said [] ≡ a_directory → is_nothing (said p) ≡ true → new_root_at said p ≡ 1
one_name said [] root none = absurd (false≢true (sym (ap is_nothing root) ∙ none))
one_name said (x ∷ up) root none = ap (λ b. if b then 1 else 0) none

pub content_names : (rows : List TreeRow) (said : Elements → Said) (p : Elements) (v : Said) (old new : Tree) (taken : Bool) → said [] ≡ a_directory → TakesContent rows said p v old new taken → taken ≡ true → new.names ≡ old.names + new_root_at said p
content_names rows said p v old new taken root t e = t.names e ∙ ap (λ n. old.names + n) (sym (one_name said p root (sym t.is ∙ e)))

pub puts_file : (rows : List TreeRow) (said : Elements → Said) (path : Elements) (mode : ℕ) (bytes : List ℕ) (old new : Tree) (taken : Bool) → said [] ≡ a_directory
    → TakesContent rows said path (put_by (row.File path mode bytes)) old new taken → PutsRow rows said (row.File path mode bytes) old new taken
puts_file rows said path mode bytes old new taken root t = record { is = t.is; gathers = t.gathers; names = content_names rows said path (put_by (row.File path mode bytes)) old new taken root t; counts = t.counts }

pub puts_link : (rows : List TreeRow) (said : Elements → Said) (path : Elements) (target : List ℕ) (old new : Tree) (taken : Bool) → said [] ≡ a_directory
    → TakesContent rows said path (put_by (row.Link path target)) old new taken → PutsRow rows said (row.Link path target) old new taken
puts_link rows said path target old new taken root t = record { is = t.is; gathers = t.gathers; names = content_names rows said path (put_by (row.Link path target)) old new taken root t; counts = t.counts }

-- ---- whether a row is taken

unclear_row : (a b c : Bool) → b ≡ false → false ≡ (a && (b && c))
unclear_row true false c e = refl
unclear_row false false c e = refl
unclear_row a true c e = absurd (false≢true (sym e))

-- a row below a file or a link isn't taken
pub takes_none : (rows : List TreeRow) (said : Elements → Said) (r : TreeRow) (old new : Tree) → is_clear said (row_path r) ≡ false → Takes rows said r old new false
takes_none rows said r old new unclear = record {
  is = unclear_row (is_good_row r) (is_clear said (row_path r)) (may_stand r (said (row_path r)) && leb (old.names + new_names said (row_path r)) MOST_NAMES) unclear;
  gathers = λ t. absurd (false≢true t);
  names = λ t. absurd (false≢true t);
  counts = λ t. absurd (false≢true t);
}

pub clear_from : (said : Elements → Said) (p : Elements) → is_content (said (drop 1 p)) ≡ false → is_clear said (drop 1 p) ≡ true → is_clear said p ≡ true
clear_from said [] e h = refl
clear_from said (x ∷ up) e h = ap (λ b. not b && is_clear said up) e ∙ h

-- a good row is at most 65 deep
pub good_short : (r : TreeRow) → is_good_row r ≡ true → length (row_path r) ≤ 65
good_short (row.Dir path) good = let h : length path ≤ 64 = leb-true (length path) 64 good in omega (arith, h)
good_short (row.File path mode bytes) good = leb-true (length path) 65 (and_parts (leb (length path) 65) _ good).0
good_short (row.Link path target) good = leb-true (length path) 65 (and_parts (leb (length path) 65) _ good).0

-- with a row that is taken there are at most 40,000 names
pub few_taken : (said : Elements → Said) (names : ℕ) (r : TreeRow) → is_taken said names r ≡ true → names + new_names said (row_path r) ≤ MOST_NAMES
few_taken said names r taken =
    let clear = (and_parts (is_good_row r) _ taken).1 in
    let stands = (and_parts (is_clear said (row_path r)) _ clear).1 in
    leb-true (names + new_names said (row_path r)) MOST_NAMES (and_parts (may_stand r (said (row_path r))) _ stands).1
