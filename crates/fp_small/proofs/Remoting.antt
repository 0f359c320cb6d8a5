-- Settings with one more remote, with another one of its name, and with one less.
use Rattle.std.proofs.Common.{◌≡◌, ℕ, ◌+◌, ◌<◌, ◌≤◌, Bool, true, false, ◌||◌, List, [], ◌∷◌, length, map, refl, sym, ◌∙◌, ap, subst, arith, inl, inr}
use Rattle.std.specs.List.{list_any, list_all}
use Rattle.std.specs.Str.{bytes_eq}
use Rattle.fp_host.specs.Reads.{is_ascending}
use Rattle.fp_small.specs.declared.config.Settings.{Settings}
use Rattle.fp_small.specs.declared.state.RemoteRow.{RemoteRow}
use Rattle.fp_small.specs.Order.{inserted, removed, has_name, replaced}
use Rattle.fp_small.specs.Config.{IsSettings, is_row, name_of}
use Rattle.fp_small.proofs.Ordered.{length-inserted, length-removed, list_all-inserted, list_all-removed, is_ascending-inserted, is_ascending-removed, map-inserted, none_left, bytes_eq-differ}
use Rattle.std.proofs.lemmas.Bool.{cases_Bool}

has_map : {A : Type 0} (name : A → List ℕ) (xs : List A) (x : List ℕ) → list_any (bytes_eq x) (map name xs) ≡ has_name name xs x
has_map name [] x = refl
has_map name (y ∷ ys) x = ap (λ (b : Bool). bytes_eq x (name y) || b) (has_map name ys x)

map-removed : {A : Type 0} (name : A → List ℕ) (xs : List A) (x : List ℕ) → map name (removed name xs x) ≡ removed (λ p. p) (map name xs) x
map-removed name [] x = refl
map-removed name (y ∷ ys) x =
    elim (cases_Bool (bytes_eq (name y) x)) [
      | inl e ↦ rw e (map-removed name ys x)
      | inr e ↦ rw e (ap (λ (zs : List (List ℕ)). name y ∷ zs) (map-removed name ys x))
    ]

-- it is there no more
gone : (rows : List RemoteRow) (name : List ℕ) → has_name name_of (removed name_of rows name) name ≡ false
gone rows name = sym (has_map name_of (removed name_of rows name) name) ∙ ap (list_any (bytes_eq name)) (map-removed name_of rows name) ∙ none_left (map name_of rows) name

-- one that was there
fewer : {A : Type 0} (name : A → List ℕ) (xs : List A) (x : List ℕ) → has_name name xs x ≡ true → length (removed name xs x) + 1 ≤ length xs
fewer name [] x has = absurd (cc has)
fewer name (y ∷ ys) x has =
    elim (cases_Bool (bytes_eq (name y) x)) [
      | inl e ↦ rw e (omega (arith, length-removed name ys x))
      | inr e ↦ rw e (omega (arith, fewer name ys x (subst (λ (b : Bool). (b || has_name name ys x) ≡ true) (bytes_eq-differ (name y) x e) has)))
    ]

added_to : (s : Settings) (rows : List RemoteRow) (row : RemoteRow) → IsSettings s → list_all is_row rows ≡ true → is_ascending (map name_of rows) ≡ true → is_row row ≡ true → has_name name_of rows row.name ≡ false → length rows < 256 → IsSettings (record s { remotes = inserted name_of rows row })
added_to s rows row h good ascend is new few = record {
  rows = list_all-inserted is_row name_of rows row good is;
  patterns = h.patterns;
  remotes_ascend = subst (λ (names : List (List ℕ)). is_ascending names ≡ true) (sym (map-inserted name_of rows row)) (is_ascending-inserted (map name_of rows) row.name ascend (has_map name_of rows row.name ∙ new));
  pins_ascend = h.pins_ascend;
  few_remotes = omega (arith, length-inserted name_of rows row);
  few_pins = h.few_pins;
}

pub added : (s : Settings) (row : RemoteRow) → IsSettings s → is_row row ≡ true → has_name name_of s.remotes row.name ≡ false → length s.remotes < 256 → IsSettings (record s { remotes = inserted name_of s.remotes row })
added s row h is new few = added_to s s.remotes row h h.rows h.remotes_ascend is new few

ascend_without : (rows : List RemoteRow) (name : List ℕ) → is_ascending (map name_of rows) ≡ true → is_ascending (map name_of (removed name_of rows name)) ≡ true
ascend_without rows name ascend = subst (λ (names : List (List ℕ)). is_ascending names ≡ true) (sym (map-removed name_of rows name)) (is_ascending-removed (map name_of rows) name ascend)

pub modified : (s : Settings) (row : RemoteRow) → IsSettings s → is_row row ≡ true → has_name name_of s.remotes row.name ≡ true → IsSettings (record s { remotes = replaced name_of s.remotes row })
modified s row h is has =
    added_to s (removed name_of s.remotes row.name) row h (list_all-removed is_row name_of s.remotes row.name h.rows) (ascend_without s.remotes row.name h.remotes_ascend) is (gone s.remotes row.name) (omega (arith, h.few_remotes, fewer name_of s.remotes row.name has))

pub dropped : (s : Settings) (name : List ℕ) → IsSettings s → IsSettings (record s { remotes = removed name_of s.remotes name })
dropped s name h = record {
  rows = list_all-removed is_row name_of s.remotes name h.rows;
  patterns = h.patterns;
  remotes_ascend = ascend_without s.remotes name h.remotes_ascend;
  pins_ascend = h.pins_ascend;
  few_remotes = omega (arith, h.few_remotes, length-removed name_of s.remotes name);
  few_pins = h.few_pins;
}
