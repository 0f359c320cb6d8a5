-- The directories above a path, one after another.
use Rattle.std.proofs.Common.{◌≡◌, ◌<◌, ℕ, zero, suc, List, [], ◌∷◌, length, drop, Bool, true, false, not, refl, sym, ◌∙◌, ap, arith}
use Rattle.std.specs.Prelude.{if◌then◌else◌, ◌||◌, ◌&&◌}
use Rattle.std.proofs.lemmas.Bool.{false≢true}
use Rattle.fp_host.specs.Paths.{Elements, path_eq}
use Rattle.fp_host.proofs.Separate.{path_decides}
use Rattle.ost_commit.specs.declared.row.TreeRow.{TreeRow}
use Rattle.ost_commit.specs.declared.row.TreeRow.TheVariants as row
use Rattle.ost_commit.specs.declared.tree.Folder.{Folder}
use Rattle.ost_commit.specs.declared.tree.Tree.{Tree}
use Rattle.ost_commit.specs.Rows.{Said, no_entry, a_directory, row_path, put_by, is_above, first_said}
use Rattle.ost_commit.specs.Refusals.{is_nothing, is_content, is_clear}
use Rattle.ost_commit.specs.Folders.{with_entry, with_above, with_row, Gathers, new_at, Entered, Reached}
use Rattle.ost_commit.proofs.Counting.{counts_same, counts_both}
use Rattle.ost_commit.proofs.Saying.{or_nothing, first_assoc}

-- what is said the same is gathered the same
pub gathers_same : (rows : List TreeRow) (s t : Elements → Said) (folders : List Folder) → ((q : Elements) → s q ≡ t q) → Gathers rows s folders → Gathers rows t folders
gathers_same rows s t folders same g = record {
  tree = record {
    root = sym (same []) ∙ g.tree.root;
    closed = λ x up n. sym (same (x ∷ up)) ∙ g.tree.closed x up (λ h. n (sym (same up) ∙ h));
  };
  root = g.root;
  path = λ i f a. sym (same f.path) ∙ g.path i f a;
  shallow = g.shallow;
  each = λ i f x a. g.each i f x a ∙ same (x ∷ f.path);
  below = g.below;
  apart = g.apart;
  inside = g.inside;
  named = g.named;
}

-- a directory where one is said changes nothing
pub dir_again : (said : Elements → Said) (p q : Elements) → said p ≡ a_directory → said q ≡ with_entry said p a_directory q
dir_again said p q is = go (path_eq q p) (path_decides q p).0
  where
    go : (b : Bool) → (b ≡ true → q ≡ p) → said q ≡ first_said (said q) (if b then a_directory else no_entry)
    go true e = let here : said q ≡ a_directory = ap said (e refl) ∙ is in here ∙ sym (ap (λ s. first_said s a_directory) here)
    go false e = sym (or_nothing (said q))

-- a path isn't above one that isn't longer
above_longer : (q p : Elements) → is_above q p ≡ true → length q < length p
above_longer q [] h = absurd (false≢true h)
above_longer q (x ∷ up) h = go (path_eq q up) (path_decides q up).0 (above_longer q up) h
  where
    go : (b : Bool) → (b ≡ true → q ≡ up) → (is_above q up ≡ true → length q < length up) → (b || is_above q up) ≡ true → length q < length (x ∷ up)
    go true e more k = omega (arith, ap length (e refl))
    go false e more k = omega (arith, more k)

not_above : (x : List ℕ) (up : Elements) → (path_eq (x ∷ up) up || is_above (x ∷ up) up) ≡ false
not_above x up = go (path_eq (x ∷ up) up) (path_decides (x ∷ up) up).0 (is_above (x ∷ up) up) (above_longer (x ∷ up) up)
  where
    go : (b : Bool) → (b ≡ true → x ∷ up ≡ up) → (c : Bool) → (c ≡ true → length (x ∷ up) < length up) → (b || c) ≡ false
    go true e c f = absurd (omega (arith, ap length (e refl)))
    go false e true f = absurd (omega (arith, f refl))
    go false e false f = refl

-- below a path nothing else is said where it and those above it become directories
pub above_same : (said : Elements → Said) (x : List ℕ) (up : Elements) → with_above said up (x ∷ up) ≡ said (x ∷ up)
above_same said x up = ap (λ b. first_said (said (x ∷ up)) (if b then a_directory else no_entry)) (not_above x up) ∙ or_nothing (said (x ∷ up))

dir_or : (a h : Bool) → first_said (if a then a_directory else no_entry) (if h then a_directory else no_entry) ≡ (if h || a then a_directory else no_entry)
dir_or true true = refl
dir_or true false = refl
dir_or false true = refl
dir_or false false = refl

-- one directory more
pub above_step : (said : Elements → Said) (x : List ℕ) (up q : Elements) → with_entry (with_above said up) (x ∷ up) a_directory q ≡ with_above said (x ∷ up) q
above_step said x up q =
    sym (first_assoc (said q) (if path_eq q up || is_above q up then a_directory else no_entry) (if path_eq q (x ∷ up) then a_directory else no_entry))
    ∙ ap (first_said (said q)) (dir_or (path_eq q up || is_above q up) (path_eq q (x ∷ up)))

-- and what a row of the path puts, after the directories above it
pub row_step : (said : Elements → Said) (r : TreeRow) (x : List ℕ) (up : Elements) → row_path r ≡ x ∷ up → said (x ∷ up) ≡ no_entry
    → (q : Elements) → with_entry (with_above said up) (x ∷ up) (put_by r) q ≡ with_row said r q
row_step said r x up is none q = go (path_eq q (x ∷ up)) (path_decides q (x ∷ up)).0
    ∙ ap (λ p. first_said (said q) (if path_eq q p then put_by r else (if is_above q p then a_directory else no_entry))) (sym is)
  where
    go : (h : Bool) → (h ≡ true → q ≡ x ∷ up)
        → first_said (with_above said up q) (if h then put_by r else no_entry) ≡ first_said (said q) (if h then put_by r else (if path_eq q up || is_above q up then a_directory else no_entry))
    go true e =
        let there : with_above said up q ≡ no_entry = ap (with_above said up) (e refl) ∙ (above_same said x up ∙ none) in
        ap (λ s. first_said s (put_by r)) there ∙ sym (ap (λ s. first_said s (put_by r)) (ap said (e refl) ∙ none))
    go false e = or_nothing (with_above said up q)

pub dir_row_step : (said : Elements → Said) (path q : Elements) → with_above said path q ≡ with_row said (row.Dir path) q
dir_row_step said path q = ap (first_said (said q)) (go (path_eq q path) (is_above q path))
  where
    go : (h a : Bool) → (if h || a then a_directory else no_entry) ≡ (if h then a_directory else (if a then a_directory else no_entry))
    go true a = refl
    go false true = refl
    go false false = refl

-- ---- what is clear, and the names that come

pub unclear : (said : Elements → Said) (path : Elements) (k : ℕ) → said [] ≡ a_directory → is_content (said (drop (suc k) path)) ≡ true → is_clear said path ≡ false
unclear said [] k root h = absurd (false≢true (sym (ap is_content root) ∙ h))
unclear said (x ∷ up) zero root h = ap (λ b. not b && is_clear said up) h
unclear said (x ∷ up) (suc k) root h = go (is_content (said up)) (unclear said up k root h)
  where
    go : (b : Bool) → is_clear said up ≡ false → (not b && is_clear said up) ≡ false
    go true e = refl
    go false e = e

-- the step from one directory to the next
pub reached_next : (rows : List TreeRow) (said : Elements → Said) (x : List ℕ) (up : Elements) (old mid new : Tree) (i j : ℕ)
    → Reached rows said up old mid i → Entered rows (with_above said up) (x ∷ up) mid new j → Reached rows said (x ∷ up) old new j
reached_next rows said x up old mid new i j r e = record {
  clear = sym (ap is_content (above_same said x up)) ∙ e.clear;
  above = ap (λ b. not b && is_clear said up) r.clear ∙ r.above;
  gathers = gathers_same rows (with_entry (with_above said up) (x ∷ up) a_directory) (with_above said (x ∷ up)) new.folders.items (above_step said x up) e.gathers;
  at = e.at;
  names =
      let one : new_at (with_above said up) (x ∷ up) ≡ (if is_nothing (said (x ∷ up)) then 1 else 0) = ap (λ s. if is_nothing s then 1 else 0) (above_same said x up) in
      e.names ∙ omega (arith, r.names, one);
  counts = counts_both old mid new r.counts e.counts;
}

-- a file or link that stands on the way
pub content_next : (rows : List TreeRow) (said : Elements → Said) (x : List ℕ) (up : Elements) → is_content (with_above said up (x ∷ up)) ≡ true → is_content (said (x ∷ up)) ≡ true
content_next rows said x up h = sym (ap is_content (above_same said x up)) ∙ h

-- the beginning: the root
pub reached_root : (rows : List TreeRow) (said : Elements → Said) (tree : Tree) → Gathers rows said tree.folders.items → Reached rows said [] tree tree 0
reached_root rows said tree g = record {
  clear = ap is_content g.tree.root;
  above = refl;
  gathers = gathers_same rows said (with_above said []) tree.folders.items at_root g;
  at = record { folder = g.root.0; at = g.root.1; is = g.root.2 };
  names = omega arith;
  counts = counts_same tree;
}
  where
    at_root : (q : Elements) → said q ≡ with_above said [] q
    at_root q = go (path_eq q []) (path_decides q []).0
      where
        go : (b : Bool) → (b ≡ true → q ≡ []) → said q ≡ first_said (said q) (if b || false then a_directory else no_entry)
        go true e = let here : said q ≡ a_directory = ap said (e refl) ∙ g.tree.root in here ∙ sym (ap (λ s. first_said s a_directory) here)
        go false e = sym (or_nothing (said q))
