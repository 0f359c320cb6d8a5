-- What is written reads back.
use Rattle.std.proofs.Common.{◌≡◌, ◌==◌, ℕ, Bool, true, false, cond, eqb, List, [], ◌∷◌, ◌++◌, ◌||◌, arith, filter, length, Option, Some, None, refl, sym, ap, subst, ◌∙◌, append_assoc, append-nil}
use Rattle.std.specs.Prelude.{codes}
use Rattle.std.specs.List.{list_any, flat_map, AllByRecursion}
use Rattle.std.proofs.lemmas.Bool.{false≢true, false_from_ne_true, ne_eqb, eqb-true, or_parts}
use Rattle.std.proofs.lemmas.List.Concat.{flat_map-append}
use Rattle.fp_base.proofs.Lists.{all_append}
use Rattle.fp_keyfile.specs.declared.group.Pair.{Pair}
use Rattle.fp_keyfile.specs.Grammar.{is_blank}
use Rattle.fp_keyfile.specs.Lines.{trimmed_front}
use Rattle.fl_meta.specs.declared.permission.PermList.{PermList}
use Rattle.fl_meta.specs.declared.permission.PermList.TheVariants as lists
use Rattle.fl_meta.specs.declared.permission.Permission.{Permission}
use Rattle.fl_meta.specs.declared.permission.Value.{Value}
use Rattle.fl_meta.specs.declared.permission.Mention.{Mention}
use Rattle.fl_meta.specs.declared.mentions.Source.TheVariants as sources
use Rattle.fl_meta.specs.Names.{key_of}
use Rattle.fl_meta.specs.Order.{place_of, is_same}
use Rattle.fl_meta.specs.Entries.{without_mark, is_empty, is_no_name, name_in, mention_of, mentions_in, entry_mentions, list_mentions}
use Rattle.fl_meta.specs.Separators.{ends_escaped, entries_of}
use Rattle.fl_meta.specs.Mentions.{pair_mentions, group_mentions, file_mentions}
use Rattle.fl_meta.proofs.Endings.{is_empty-cons}
use Rattle.fl_meta.proofs.Whole.{IsWhole, entries_cut, entries_are_whole}
use Rattle.fl_meta.proofs.Same.{place_exact, same_places}
use Rattle.fl_context.specs.Grants.{said, later, last_mention, value_in, IsAscending}
use Rattle.fl_context.proofs.Merging.{last_mention-append, last-one, later-none}
use Rattle.fl_override.specs.Written.{entry_text, closed_entry, is_in, list_text, pair_if, list_pair, context_lists, context_pairs, named_pair, named_pairs, group_if, file_with, group_of, pair_with, pair_of, CanWrite}
use Rattle.fl_override.specs.Overrides.{AllCanWrite}
use Rattle.fl_override.proofs.Closed.{IsClosed, closed_with, trimmed_whole, mark_whole, place_whole}
use Rattle.fl_override.proofs.Reading.{IsListed, listed_shared, listed_sockets, listed_devices, listed_features, listed_filesystems, listed_persistent, listed_unknown_shared, listed_unknown_sockets, listed_unknown_devices, listed_unknown_features, listed_unknown_session, listed_unknown_system, mentions_in-nil, closed_reads, context_reads}

-- ---- a `;` after a name ends it

whole_name : (list : PermList) (t : List ℕ) → IsWhole false t → IsWhole false (name_in list t)
whole_name lists.Filesystems t h = place_whole t h
whole_name list t h = h

abbrev NameCloses : Mention → Type 0
NameCloses m = IsClosed m.permission.name

named_closes : (none : Bool) (list : PermList) (name : List ℕ) (value : Value) → is_no_name name ≡ none → IsWhole false name → AllByRecursion NameCloses (cond none [] (mention_of list name value ∷ []))
named_closes true list name value e h = tt
named_closes false list name value e h = (record { whole = h; ends = (or_parts (is_empty name) (ends_escaped name) e).1 }, tt)

entry_names : (list : PermList) (x : List ℕ) → IsWhole false x → AllByRecursion NameCloses (mentions_in list x)
unfolding mentions_in
entry_names list x h = named_closes (is_no_name (name_in list (without_mark x))) _ _ _ refl (whole_name list (without_mark x) (mark_whole x h))

pieces_names : (list : PermList) (pieces : List (List ℕ)) → AllByRecursion (IsWhole false) pieces → AllByRecursion NameCloses (flat_map (entry_mentions list) pieces)
pieces_names list [] h = tt
pieces_names list (piece ∷ pieces) h =
    all_append NameCloses (entry_mentions list piece) _ (entry_names list (trimmed_front is_blank piece) (trimmed_whole piece h.0)) (pieces_names list pieces h.1)

list_names : (list : PermList) (value : List ℕ) → AllByRecursion NameCloses (list_mentions list value)
unfolding list_mentions
list_names list value = pieces_names list (entries_of value) (entries_are_whole value)

-- ---- a list

record ReadsAlone (list : PermList) (m : Mention) : Type 0 where
  pub closed : IsClosed (entry_text m)
  pub reads : entry_mentions list (entry_text m) ≡ m ∷ []

reads_alone : (list : PermList) (m : Mention) → IsListed list → m.permission.list ≡ list → CanWrite m → ReadsAlone list m
reads_alone list m l is h =
    let whole : list_mentions list (closed_entry m) ≡ m ∷ [] =
    sym (context_reads list (closed_entry m) l) ∙ sym (ap (pair_mentions sources.Override (codes "Context")) (l.pair m is)) ∙ sym (ap (λ g. pair_mentions sources.Override g (pair_of m)) (ap group_of is ∙ l.group)) ∙ h.reads in
    let names : AllByRecursion NameCloses (m ∷ []) = subst (AllByRecursion NameCloses) whole (list_names list (closed_entry m)) in
    let closed = closed_with m.value m.permission.name names.0 in
    record { closed = closed; reads = sym (closed_reads list (entry_text m) closed) ∙ whole }

list_more : (list : PermList) (entry rest : List ℕ) → IsClosed entry → list_mentions list (entry ++ 59 ∷ rest) ≡ entry_mentions list entry ++ list_mentions list rest
unfolding list_mentions
list_more list entry rest h = ap (flat_map (entry_mentions list)) (entries_cut false entry rest h.whole h.ends)

list_none : (list : PermList) → list_mentions list [] ≡ []
unfolding list_mentions
list_none list = ap (λ ms. ms ++ []) (mentions_in-nil list)

pub list_back : (list : PermList) (set : List Mention) → IsListed list → AllCanWrite set → list_mentions list (list_text list set) ≡ filter (is_in list) set
unfolding list_text
list_back list [] l h = list_none list
list_back list (m ∷ set) l h = by_list (is_in list m) refl (list_back list set l h.1)
  where
    by_list : (here : Bool) → is_in list m ≡ here → list_mentions list (list_text list set) ≡ filter (is_in list) set → list_mentions list (cond here (closed_entry m) [] ++ list_text list set) ≡ cond here (m ∷ filter (is_in list) set) (filter (is_in list) set)
    by_list false e rest = rest
    by_list true e rest =
        let alone = reads_alone list m l (place_exact m.permission.list list e) h.0 in
        ap (list_mentions list) (append_assoc (entry_text m) (59 ∷ []) (list_text list set)) ∙ list_more list (entry_text m) (list_text list set) alone.closed
        ∙ ap (λ ms. ms ++ list_mentions list (list_text list set)) alone.reads ∙ ap (λ ms. m ∷ ms) rest

-- ---- the group `Context`

pair_back : (list : PermList) (text : List ℕ) → IsListed list → flat_map (pair_mentions sources.Override (codes "Context")) (pair_if (key_of list) text) ≡ list_mentions list text
pair_back list [] l = sym (list_none list)
pair_back list (b ∷ bs) l = rw (is_empty-cons b bs) (append-nil _ ∙ context_reads list (b ∷ bs) l)

lists_back : (ls : List PermList) (set : List Mention) → AllByRecursion IsListed ls → AllCanWrite set → flat_map (pair_mentions sources.Override (codes "Context")) (flat_map (list_pair set) ls) ≡ flat_map (λ l. filter (is_in l) set) ls
lists_back [] set all h = refl
lists_back (l ∷ ls) set all h =
    flat_map-append (pair_mentions sources.Override (codes "Context")) (list_pair set l) (flat_map (list_pair set) ls)
    ∙ ap (λ ms. ms ++ flat_map (pair_mentions sources.Override (codes "Context")) (flat_map (list_pair set) ls)) (pair_back l (list_text l set) all.0 ∙ list_back l set all.0 h)
    ∙ ap (λ ms. filter (is_in l) set ++ ms) (lists_back ls set all.1 h)

pub all_listed : AllByRecursion IsListed context_lists
all_listed =
    (listed_shared, (listed_sockets, (listed_devices, (listed_features, (listed_filesystems, (listed_persistent, (listed_unknown_shared, (listed_unknown_sockets, (listed_unknown_devices, (listed_unknown_features, (listed_unknown_session, (listed_unknown_system, tt))))))))))))

context_back : (set : List Mention) → AllCanWrite set → flat_map (pair_mentions sources.Override (codes "Context")) (context_pairs set) ≡ flat_map (λ l. filter (is_in l) set) context_lists
unfolding context_pairs
context_back set h = lists_back context_lists set all_listed h

-- ---- the groups whose keys are names

pub record HasNames (list : PermList) : Type 0 where
  pub pair : (m : Mention) → m.permission.list ≡ list → pair_of m ≡ named_pair m

pub has_variables : HasNames lists.Environment
has_variables = record { pair = λ m e. ap (λ l. pair_with l m) e }

pub has_session : HasNames lists.SessionBus
has_session = record { pair = λ m e. ap (λ l. pair_with l m) e }

pub has_system : HasNames lists.SystemBus
has_system = record { pair = λ m e. ap (λ l. pair_with l m) e }

names_back : (list : PermList) (set : List Mention) → HasNames list → AllCanWrite set → flat_map (pair_mentions sources.Override (group_of list)) (named_pairs list set) ≡ filter (is_in list) set
unfolding named_pairs
names_back list [] n h = refl
names_back list (m ∷ set) n h = by_list (is_in list m) refl (names_back list set n h.1)
  where
    by_list : (here : Bool) → is_in list m ≡ here → flat_map (pair_mentions sources.Override (group_of list)) (named_pairs list set) ≡ filter (is_in list) set → flat_map (pair_mentions sources.Override (group_of list)) (cond here (named_pair m ∷ []) [] ++ named_pairs list set) ≡ cond here (m ∷ filter (is_in list) set) (filter (is_in list) set)
    by_list false e rest = rest
    by_list true e rest =
        let is = place_exact m.permission.list list e in
        let one : pair_mentions sources.Override (group_of list) (named_pair m) ≡ m ∷ [] =
        ap (pair_mentions sources.Override (group_of list)) (sym (n.pair m is)) ∙ ap (λ l. pair_mentions sources.Override (group_of l) (pair_of m)) (sym is) ∙ h.0.reads in
        ap (λ ms. ms ++ flat_map (pair_mentions sources.Override (group_of list)) (named_pairs list set)) one ∙ ap (λ ms. m ∷ ms) rest

-- ---- the file

group_back : (name : List ℕ) (pairs : List Pair) → flat_map (group_mentions sources.Override) (group_if name pairs) ≡ flat_map (pair_mentions sources.Override name) pairs
unfolding group_mentions
group_back name [] = refl
group_back name (p ∷ pairs) = rw (some_pairs p pairs) (append-nil _)
  where
    some_pairs : (q : Pair) (qs : List Pair) → (length (q ∷ qs) == 0) ≡ false
    some_pairs q qs = ne_eqb (length (q ∷ qs)) 0 (λ e. omega arith)

abbrev pub all_lists : List PermList
all_lists = context_lists ++ (lists.Environment ∷ lists.SessionBus ∷ lists.SystemBus ∷ [])

abbrev pub spread : List PermList → List Mention → List Mention
spread ls set = flat_map (λ l. filter (is_in l) set) ls

pub file_back : (set : List Mention) → AllCanWrite set → file_mentions sources.Override (file_with set) ≡ spread all_lists set
unfolding file_mentions file_with
file_back set h =
    let g = group_mentions sources.Override in
    let a = group_if (codes "Context") (context_pairs set) in
    let b = group_if (codes "Environment") (named_pairs lists.Environment set) in
    let c = group_if (codes "Session Bus Policy") (named_pairs lists.SessionBus set) in
    let d = group_if (codes "System Bus Policy") (named_pairs lists.SystemBus set) in
    let x : flat_map g a ≡ spread context_lists set = group_back (codes "Context") (context_pairs set) ∙ context_back set h in
    let y : flat_map g b ≡ filter (is_in lists.Environment) set = group_back (codes "Environment") (named_pairs lists.Environment set) ∙ names_back lists.Environment set has_variables h in
    let z : flat_map g c ≡ filter (is_in lists.SessionBus) set = group_back (codes "Session Bus Policy") (named_pairs lists.SessionBus set) ∙ names_back lists.SessionBus set has_session h in
    let w : flat_map g d ≡ filter (is_in lists.SystemBus) set = group_back (codes "System Bus Policy") (named_pairs lists.SystemBus set) ∙ names_back lists.SystemBus set has_system h in
    flat_map-append g a (b ++ (c ++ d)) ∙ ap (λ ms. flat_map g a ++ ms) (flat_map-append g b (c ++ d) ∙ ap (λ ms. flat_map g b ++ ms) (flat_map-append g c d))
    ∙ joined_parts x y z w ∙ sym (flat_map-append (λ l. filter (is_in l) set) context_lists (lists.Environment ∷ lists.SessionBus ∷ lists.SystemBus ∷ []))
  where
    joined_parts : {a b c d x y z w : List Mention} → a ≡ x → b ≡ y → c ≡ z → d ≡ w → a ++ (b ++ (c ++ d)) ≡ x ++ (y ++ (z ++ (w ++ [])))
    joined_parts {a} {b} {c} {d} {x} {y} {z} {w} e f g h = rw (e, f, g, h, append-nil w) refl

-- ---- the last mention

unsaid : (m : Mention) (p : Permission) → (place_of m.permission.list == place_of p.list) ≡ false → said m p ≡ None
unsaid m p e =
    let apart : is_same m.permission p ≡ false = false_from_ne_true (is_same m.permission p) (λ s. false≢true (sym e ∙ same_places m.permission p s)) in
    rw apart refl

by_place : (a b c : ℕ) → eqb a b ≡ true → eqb a c ≡ eqb b c
by_place a b c e = ap (λ n. eqb n c) (eqb-true a b e)

last_listed : (l : PermList) (set : List Mention) (p : Permission) → last_mention (filter (is_in l) set) p ≡ cond (place_of l == place_of p.list) (last_mention set p) None
last_listed l [] p = same_none (place_of l == place_of p.list)
  where
    same_none : (b : Bool) → Path (Option Value) None (cond b None None)
    same_none true = refl
    same_none false = refl
last_listed l (m ∷ set) p = by_list (is_in l m) refl (last_listed l set p)
  where
    all_in : (here : Bool) → (place_of l == place_of p.list) ≡ here → said m p ≡ cond here (said m p) None → later (cond here (last_mention set p) None) (said m p) ≡ cond here (later (last_mention set p) (said m p)) None
    all_in true e k = refl
    all_in false e k = k

    all_out : (here : Bool) → (here ≡ true → said m p ≡ None) → cond here (last_mention set p) None ≡ cond here (later (last_mention set p) (said m p)) None
    all_out true k = sym (ap (later (last_mention set p)) (k refl) ∙ later-none (last_mention set p))
    all_out false k = refl

    told : (here : Bool) → (place_of l == place_of p.list) ≡ here → is_in l m ≡ true → said m p ≡ cond here (said m p) None
    told true f e = refl
    told false f e = unsaid m p (by_place (place_of m.permission.list) (place_of l) (place_of p.list) e ∙ f)

    by_list : (here : Bool) → is_in l m ≡ here → last_mention (filter (is_in l) set) p ≡ cond (place_of l == place_of p.list) (last_mention set p) None
        → last_mention (cond here (m ∷ filter (is_in l) set) (filter (is_in l) set)) p ≡ cond (place_of l == place_of p.list) (last_mention (m ∷ set) p) None
    by_list true e rest = ap (λ o. later o (said m p)) rest ∙ all_in (place_of l == place_of p.list) refl (told (place_of l == place_of p.list) refl e)
    by_list false e rest =
        rest ∙ all_out (place_of l == place_of p.list) (λ f. unsaid m p (false_from_ne_true _ (λ s. false≢true (sym e ∙ ap (eqb (place_of m.permission.list)) (eqb-true (place_of l) (place_of p.list) f) ∙ s))))

later-cond : (a b : Bool) (o : Option Value) → later (cond a o None) (cond b o None) ≡ cond (b || a) o None
later-cond true true (Some v) = refl
later-cond true true None = refl
later-cond true false (Some v) = refl
later-cond true false None = refl
later-cond false true o = refl
later-cond false false o = refl

last_spread : (ls : List PermList) (set : List Mention) (p : Permission) → last_mention (spread ls set) p ≡ cond (list_any (λ l. place_of l == place_of p.list) ls) (last_mention set p) None
last_spread [] set p = refl
last_spread (l ∷ ls) set p =
    last_mention-append (filter (is_in l) set) (spread ls set) p ∙ two_lasts (last_spread ls set p) (last_listed l set p)
    ∙ later-cond (list_any (λ k. place_of k == place_of p.list) ls) (place_of l == place_of p.list) (last_mention set p)
  where
    two_lasts : {a b c d : Option Value} → a ≡ c → b ≡ d → later a b ≡ later c d
    two_lasts e f = cc

any_list : (k : PermList) → list_any (λ l. place_of l == place_of k) all_lists ≡ true
any_list lists.Shared = refl
any_list lists.Sockets = refl
any_list lists.Devices = refl
any_list lists.Features = refl
any_list lists.Filesystems = refl
any_list lists.Persistent = refl
any_list lists.Environment = refl
any_list lists.SessionBus = refl
any_list lists.SystemBus = refl
any_list lists.UnknownShared = refl
any_list lists.UnknownSockets = refl
any_list lists.UnknownDevices = refl
any_list lists.UnknownFeatures = refl
any_list lists.UnknownSessionBus = refl
any_list lists.UnknownSystemBus = refl

pub last_back : (set : List Mention) (p : Permission) → AllCanWrite set → last_mention (file_mentions sources.Override (file_with set)) p ≡ last_mention set p
last_back set p h = ap (λ ms. last_mention ms p) (file_back set h) ∙ last_spread all_lists set p ∙ ap (λ b. cond b (last_mention set p) None) (any_list p.list)

pub reads_back : (kept set : List Mention) → kept ≡ set → IsAscending kept → AllCanWrite kept → (p : Permission) → last_mention (file_mentions sources.Override (file_with set)) p ≡ value_in set p
reads_back kept set e up h p =
    let same : (p : Permission) → last_mention (file_mentions sources.Override (file_with kept)) p ≡ value_in kept p = λ q. last_back kept q h ∙ last-one kept q up in
    subst (λ s. last_mention (file_mentions sources.Override (file_with s)) p ≡ value_in s p) e (same p)
