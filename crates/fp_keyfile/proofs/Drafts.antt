-- A file while it is read: what the steps of the code leave is what the definition gives.
use Rattle.std.proofs.Common.{◌≡◌, ◌≢◌, ℕ, ◌<◌, ◌≤◌, cond, List, [], ◌∷◌, ◌++◌, map, length, get_or, set, Option, Some, Ok, unwrap_or, sym, ap, subst, ◌∙◌, arith}
use Rattle.std.specs.List.{All}
use Rattle.std.specs.Option.{option_map}
use Rattle.std.specs.Str.{bytes_eq}
use Rattle.std.proofs.lemmas.Bool.{cond-true}
use Rattle.std.proofs.lemmas.List.{length-map, map-set, get_or-map, map_push}
use Rattle.std.proofs.lemmas.List.Elements.{All-set, All-push}
use Rattle.fp_base.proofs.Texts.{bytes_eq-same}
use Rattle.fp_keyfile.specs.declared.group.Group.{Group}
use Rattle.fp_keyfile.specs.declared.table.Table.{Table}
use Rattle.fp_keyfile.specs.declared.draft.Draft.{Draft}
use Rattle.fp_keyfile.specs.KeyFile.{names_of, keys_of, with_name, with_key, with_group, with_pair, Reading, with_entry}
use Rattle.fp_keyfile.specs.Index.{Places, place_in, Indexes}
use Rattle.fp_keyfile.specs.Draft.{group_of, groups_of, name_at, reading, IsCurrent, IsIndexedTable, IsIndexed}
use Rattle.fp_keyfile.proofs.Good.{names_of-with_group, names_of-with_pair}
use Rattle.fp_keyfile.proofs.Changes.{with_group_new}
use Rattle.fp_keyfile.proofs.FirstPlace.{place_of, place_of-with_name, Indexes-with_name, StandsAt-from, absent_from, IsLookup-from, with_group_found, with_pair_found, with_name_found}

-- ---- a group that begins or goes on

-- the groups with the one that was asked for, and its place
pub record IsBegun (old : List Group) (new : Places) (name : List ℕ) (at : ℕ) : Type 0 where
  pub within : at ≤ length old
  pub found : at < length old → with_group old name ≡ old
  pub fresh : length old ≤ at → with_group old name ≡ old ++ (record { name = name; pairs = [] } ∷ [])
  pub groups : Indexes new (names_of (with_group old name))
  pub place : place_of (names_of (with_group old name)) name ≡ Some at

pub IsBegun-from : (old new : Places) (groups : List Group) (name : List ℕ) (at next : ℕ) → Indexes old (names_of groups) → next ≡ length groups → at ≡ unwrap_or (place_in old name) next
    → ((other : List ℕ) → place_in new other ≡ cond (bytes_eq name other) (Some at) (place_in old other)) → IsBegun groups new name at
IsBegun-from old new groups name at next h len is after =
    let names = names_of groups in
    let all : length names ≡ length groups = length-map groups (λ (g : Group). g.name) in
    let same : at ≡ unwrap_or (place_in old name) (length names) = is ∙ ap (unwrap_or (place_in old name)) (len ∙ sym all) in
    let at_place : at ≡ unwrap_or (place_of names name) (length names) = same ∙ ap (λ (o : Option ℕ). unwrap_or o (length names)) (h.at name) in
    let look = IsLookup-from names name at at_place in
    let stands : place_of (with_name names name) name ≡ Some at = place_of-with_name names name name ∙ cond-true (bytes_eq name name) (Some (unwrap_or (place_of names name) (length names))) (place_of names name) (bytes_eq-same name) ∙ ap (λ (n : ℕ). Some n) (sym at_place) in
    record {
      within = omega (arith, all, look.within);
      found = λ lt. with_group_found groups name at (look.found (omega (arith, all)));
      fresh = λ le. with_group_new groups name (absent_from names name (look.missed (omega (arith, all))));
      groups = rw (names_of-with_group groups name) (Indexes-with_name old new names name at h same after);
      place = rw (names_of-with_group groups name) stands;
    }

-- the draft once its group is the one at the place
pub begun_leaves : (e : Draft) (old : List Group) (name : List ℕ) (at : ℕ) → IsBegun old e.places name at → groups_of e ≡ with_group old name → All IsIndexedTable e.tables.items → e.current ≡ Some at
    → (reading e ≡ record { file = with_group old name; group = Some name }) × IsIndexed e
begun_leaves e old name at b groups tables current =
    let place : place_of (names_of (groups_of e)) name ≡ Some at = ap (λ (gs : List Group). place_of (names_of gs) name) groups ∙ b.place in
    let own : name_at (groups_of e) at ≡ name = (StandsAt-from (names_of (groups_of e)) name at place).is in
    let group : option_map (name_at (groups_of e)) e.current ≡ Some name = ap (option_map (name_at (groups_of e))) current ∙ ap (λ (n : List ℕ). Some n) own in
    let is_current : IsCurrent (groups_of e) (Some at) = subst (λ (n : List ℕ). place_of (names_of (groups_of e)) n ≡ Some at) (sym own) place in
    let file : reading e ≡ record { file = with_group old name; group = option_map (name_at (groups_of e)) e.current } = ap (λ (gs : List Group). record { file = gs; group = option_map (name_at (groups_of e)) e.current }) groups in (
      file ∙ ap (λ (o : Option (List ℕ)). record { file = with_group old name; group = o }) group,
      record {
        groups = subst (λ (gs : List Group). Indexes e.places (names_of gs)) (sym groups) b.groups;
        tables = tables;
        current = subst (IsCurrent (groups_of e)) (sym current) is_current;
      },
    )

-- the draft, where the group was there, and where it was added
pub record HasGroup (s : Draft) (old : List Group) (new : Places) (name : List ℕ) : Type 0 where
  pub groups : groups_of s ≡ with_group old name
  pub tables : All IsIndexedTable s.tables.items
  pub places : s.places ≡ new

pub HasGroup-found : (d s : Draft) (new : Places) (name : List ℕ) (at : ℕ) → IsBegun (groups_of d) new name at → IsIndexed d → at ≢ length d.tables.items → s.tables.items ≡ d.tables.items → s.places ≡ new → HasGroup s (groups_of d) new name
HasGroup-found d s new name at b h ne items places =
    let each : length (groups_of d) ≡ length d.tables.items = length-map d.tables.items group_of in
    record {
      groups = ap (map group_of) items ∙ sym (b.found (omega (arith, each, b.within)));
      tables = subst (All IsIndexedTable) (sym items) h.tables;
      places = places;
    }

pub HasGroup-fresh : (d s : Draft) (new : Places) (name : List ℕ) (at : ℕ) (t : Table) → IsBegun (groups_of d) new name at → IsIndexed d → length d.tables.items ≤ at → t.group ≡ record { name = name; pairs = [] } → Indexes t.places []
    → s.tables.items ≡ d.tables.items ++ (t ∷ []) → s.places ≡ new → HasGroup s (groups_of d) new name
HasGroup-fresh d s new name at t b h le group indexed items places =
    let each : length (groups_of d) ≡ length d.tables.items = length-map d.tables.items group_of in
    let empty : IsIndexedTable t = subst (λ (g : Group). Indexes t.places (keys_of g.pairs)) (sym group) indexed in
    record {
      groups = ap (map group_of) items ∙ map_push group_of d.tables.items t ∙ ap (λ (g : Group). groups_of d ++ (g ∷ [])) group ∙ sym (b.fresh (omega (arith, each)));
      tables = subst (All IsIndexedTable) (sym items) (All-push IsIndexedTable d.tables.items t h.tables empty);
      places = places;
    }

-- ---- a pair that is put

names_kept : (groups : List Group) (name key value : List ℕ) (at : ℕ) → place_of (names_of groups) name ≡ Some at → names_of (with_pair groups name key value) ≡ names_of groups
names_kept groups name key value at h = names_of-with_pair groups name key value ∙ with_name_found (names_of groups) name at h

-- the group that stands at the place
group_at_place : (tables : List Table) (at : ℕ) (t : Table) → at < length tables → t ≡ get_or tables at t → t.group ≡ get_or (map group_of tables) at t.group
group_at_place tables at t lt is = ap group_of is ∙ sym (get_or-map group_of tables at t t.group lt)

pub put_leaves : (d e : Draft) (at : ℕ) (t u : Table) (key value : List ℕ) → IsIndexed d → d.current ≡ Some at → e.current ≡ Some at → e.places ≡ d.places → e.tables.items ≡ set d.tables.items at u
    → t ≡ get_or d.tables.items at t → u.group ≡ record t.group { pairs = with_key t.group.pairs key value } → IsIndexedTable u
    → IsIndexed e × (with_entry (reading d) (reading d).group key value ≡ Ok (reading e))
put_leaves d e at t u key value h old_current current places items is put indexed =
    let groups = groups_of d in
    let name = name_at groups at in
    let place : place_of (names_of groups) name ≡ Some at = subst (IsCurrent groups) old_current h.current in
    let all : length (names_of groups) ≡ length groups = length-map groups (λ (g : Group). g.name) in
    let each : length groups ≡ length d.tables.items = length-map d.tables.items group_of in
    let within : at < length d.tables.items = omega (arith, all, each, (StandsAt-from (names_of groups) name at place).within) in
    let after : groups_of e ≡ with_pair groups name key value =
    ap (map group_of) items ∙ map-set group_of d.tables.items at u ∙ ap (set groups at) put ∙ sym (with_pair_found groups name key value at t.group place (group_at_place d.tables.items at t within is)) in
    let names : names_of (groups_of e) ≡ names_of groups = ap names_of after ∙ names_kept groups name key value at place in
    let own : name_at (groups_of e) at ≡ name = ap (λ (ns : List (List ℕ)). get_or ns at []) names in
    let new_place : place_of (names_of (groups_of e)) (name_at (groups_of e) at) ≡ Some at = ap (place_of (names_of (groups_of e))) own ∙ ap (λ (ns : List (List ℕ)). place_of ns name) names ∙ place in
    let new_group : option_map (name_at (groups_of e)) e.current ≡ Some name = ap (option_map (name_at (groups_of e))) current ∙ ap (λ (n : List ℕ). Some n) own in
    let old_group : (reading d).group ≡ Some name = ap (option_map (name_at groups)) old_current in
    let file : reading e ≡ record { file = with_pair groups name key value; group = option_map (name_at (groups_of e)) e.current } = ap (λ (gs : List Group). record { file = gs; group = option_map (name_at (groups_of e)) e.current }) after in
    let reads : reading e ≡ record { file = with_pair groups name key value; group = Some name } = file ∙ ap (λ (o : Option (List ℕ)). record { file = with_pair groups name key value; group = o }) new_group in
    let stays : record { file = with_pair groups name key value; group = (reading d).group } ≡ reading e = ap (λ (o : Option (List ℕ)). record { file = with_pair groups name key value; group = o }) old_group ∙ sym reads in (
      record {
        groups = subst (λ (p : Places). Indexes p (names_of (groups_of e))) (sym places) (subst (Indexes d.places) (sym names) h.groups);
        tables = subst (All IsIndexedTable) (sym items) (All-set IsIndexedTable d.tables.items at u indexed h.tables);
        current = subst (IsCurrent (groups_of e)) (sym current) new_place;
      },
      ap (λ (o : Option (List ℕ)). with_entry (reading d) o key value) old_group ∙ ap (λ (r : Reading). Ok r) stays,
    )
