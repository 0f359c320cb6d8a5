-- A directory that is walked.
use Rattle.std.proofs.Common.{◌≡◌, ◌≤◌, ◌+◌, ℕ, suc, List, [], ◌∷◌, ◌++◌, length, map, Option, Some, None, refl, sym, ◌∙◌, ap, subst, append_assoc, append-nil, length-append, arith}
use Rattle.std.specs.Option.{option_or}
use Rattle.std.specs.Prelude.{reverse, option_map}
use Rattle.std.proofs.lemmas.List.{map-append, length-map, reverse-append, reverse-reverse}
use Rattle.fp_base.specs.declared.object.ObjKind.{ObjKind}
use Rattle.fp_base.specs.declared.object.ObjKind.TheVariants as kinds
use Rattle.ost_model.specs.Fields.{DirRow, TreeView}
use Rattle.ost_model.specs.Objects.{Have}
use Rattle.ost_model.specs.Order.{Place, found_at, commit_place, below_commit, commit_at, file_places, order, first_of, first_walk_fault, place_fault, walk_fault}
use Rattle.ost_model.specs.Walk.{Open, open_at, open_places, pending, opened, heads, own_places, Walked}
use Rattle.ost_model.proofs.Pending.{first_append, with_heads, as_read, walked_dir, walked_fault}
use Rattle.ost_walk.specs.declared.dirs.Dir.{Dir}
use Rattle.ost_walk.specs.declared.ends.WalkEnd.{WalkEnd}
use Rattle.ost_walk.specs.declared.ends.WalkEnd.TheVariants as ends
use Rattle.ost_walk.proofs.Checked.{fault_first}
use Rattle.ost_walk.proofs.Surveyed.{heads_stop, stops_before, stops_after}
use Rattle.ost_walk.specs.Dirs.{child}
use Rattle.ost_walk.specs.Ends.{RefusesBy, IsFirst, IsFaultOf}
use Rattle.ost_walk.specs.Surveys.{named_fault, first_bad, told_fault, StopsAmong, StopsIn}
use Rattle.ost_walk.specs.declared.ends.WalkFault.{WalkFault}
use Rattle.ost_walk.specs.Steps.{AreListed, IsRoot, own_fault, IsOpened, IsWalked, IsOnTheWay, heads_fault, heads_of, open_of, opens, place_name}

-- ---- the places of a directory

module _ (have : Have) (n : ℕ) (dir : Dir) where
  -- the first fault after the two first places
  heads_then : (ps : List Place) → first_of (walk_fault have) n (heads (open_of dir) ++ ps) ≡ option_or (heads_fault have n dir) (first_of (walk_fault have) (n + 2) ps)
  heads_then ps = first_append (walk_fault have) n (heads (open_of dir)) ps

  -- a fault of the two is the first of the directory
  pub heads_first : (done : List (List ℕ × ObjKind)) (end : WalkEnd) → RefusesBy (IsFirst (heads_fault have n dir)) end → RefusesBy (StopsAmong have n (open_places have (open_of dir)) done done) end
  heads_first done (ends.Refused w) is =
      let split = with_heads have (open_of dir) in
      heads_stop have n dir done w (record {
        depth = is.depth;
        is = ap (first_of (walk_fault have) n) split.1 ∙ heads_then split.0 ∙ ap (λ f. option_or f (first_of (walk_fault have) (n + 2) split.0)) is.is;
      }) is
  heads_first done ends.HostFault is = tt
  heads_first done ends.RemoteFault is = tt
  heads_first done ends.NoMemory is = tt

  module _ (view : TreeView) (low : dir.depth ≤ 64) (is_opened : IsOpened have n dir view) where
    abbrev below : List Place
    below = pending have (opened (suc dir.depth) view.dirs ++ [])

    all_places : open_places have (open_of dir) ≡ heads (open_of dir) ++ (file_places dir.depth view.files ++ below)
    all_places = sym (append-nil (open_places have (open_of dir))) ∙ as_read have (open_of dir) view [] low is_opened.read

    -- and so is a fault of its files
    pub files_first : (m : ℕ) (done done' done'' : List (List ℕ × ObjKind)) (end : WalkEnd) → m ≡ n + 2 → done' ≡ done ++ heads_of dir → RefusesBy (StopsAmong have m (file_places dir.depth view.files) done' done'') end
        → RefusesBy (StopsAmong have n (open_places have (open_of dir)) done done'') end
    files_first m done done' done'' (ends.Refused w) at first s =
        let in_files = stops_before below (record { depth = s.is_first.depth; is = first_append (walk_fault have) m (file_places dir.depth view.files) below ∙ ap (λ f. option_or f (first_of (walk_fault have) (m + length (file_places dir.depth view.files)) below)) s.is_first.is }) s in
        subst (λ l. StopsAmong have n l done done'' w) (sym all_places) (stops_after (heads (open_of dir)) at is_opened.good first (record {
          depth = in_files.is_first.depth;
          is = heads_then (file_places dir.depth view.files ++ below) ∙ ap (λ f. option_or f (first_of (walk_fault have) (n + 2) (file_places dir.depth view.files ++ below))) is_opened.good
              ∙ ap (λ (k : ℕ). first_of (walk_fault have) k (file_places dir.depth view.files ++ below)) (sym at) ∙ in_files.is_first.is;
        }) in_files)
    files_first m done done' done'' ends.HostFault at first s = tt
    files_first m done done' done'' ends.RemoteFault at first s = tt
    files_first m done done' done'' ends.NoMemory at first s = tt

-- ---- the work list

children : (depth : ℕ) (es : List DirRow) → map open_of (map (child depth) es) ≡ opened depth es
children depth [] = refl
children depth (e ∷ es) = ap (λ l. open_at depth e ∷ l) (children depth es)

added_opens : (xs left : List Dir) → opens (left ++ reverse xs) ≡ map open_of xs ++ opens left
added_opens xs left = ap (map open_of) (reverse-append left (reverse xs) ∙ ap (λ l. l ++ reverse left) (reverse-reverse xs)) ∙ map-append open_of xs (reverse left)

dirs_added : (k : ℕ) (es : List DirRow) (left left' : List Dir) → left' ≡ left ++ reverse (map (child k) es) → opens left' ≡ opened k es ++ opens left
dirs_added k es left left' is = ap opens is ∙ added_opens (map (child k) es) left ∙ ap (λ l. l ++ opens left) (children k es)

-- ---- a directory

pub is_walked : (have : Have) (dir : Dir) (view : TreeView) (k : ℕ) {done done' done'' : List (List ℕ × ObjKind)} {left left' : List Dir} → dir.depth ≤ 64 → k ≡ suc dir.depth → IsOpened have (length done) dir view
    → done' ≡ done ++ heads_of dir → AreListed have dir.depth view.files done' done'' → left' ≡ left ++ reverse (map (child k) view.dirs) → IsWalked have dir done done'' left left'
is_walked have dir view k {done = done} {done' = done'} {done'' = done''} {left = left} {left' = left'} low next is first files dirs = record {
  view = view;
  low = low;
  read = is.read;
  good = heads_then have (length done) dir (file_places dir.depth view.files) ∙ ap (λ f. option_or f (first_of (walk_fault have) (length done + 2) (file_places dir.depth view.files))) is.good
      ∙ ap (λ (n : ℕ). first_of (walk_fault have) n (file_places dir.depth view.files)) (sym (ap (λ (l : List (List ℕ × ObjKind)). length l) first ∙ length-append done (heads_of dir))) ∙ files.good;
  names = files.names ∙ ap (λ (l : List (List ℕ × ObjKind)). l ++ map place_name (file_places dir.depth view.files)) first ∙ append_assoc done (heads_of dir) (map place_name (file_places dir.depth view.files));
  next = dirs_added k view.dirs left left' dirs ∙ ap (λ (m : ℕ). opened m view.dirs ++ opens left) next;
}

-- ---- the walk

module _ {have : Have} {commit : List ℕ} {done : List (List ℕ × ObjKind)} (left : List Dir) (dir : Dir) (way : IsOnTheWay have commit done (left ++ dir ∷ [])) where
  next_is : opens (left ++ dir ∷ []) ≡ open_of dir ∷ opens left
  next_is = added_opens (dir ∷ []) left

  placed : length way.places ≡ length done
  placed = sym (ap (λ (l : List (List ℕ × ObjKind)). length l) way.names ∙ length-map way.places place_name)

  -- one directory more
  pub one_walked : {done' : List (List ℕ × ObjKind)} {left' : List Dir} → IsWalked have dir done done' left left' → IsOnTheWay have commit done' left'
  one_walked {done' = done'} {left' = left'} is =
      let before = subst (λ (l : List Open). Walked have (walk_fault have) commit way.places l) next_is way.walked in
      let after = walked_dir (open_of dir) is.view before is.low is.read (subst (λ (n : ℕ). first_of (walk_fault have) n (own_places (open_of dir) is.view) ≡ None) (sym placed) is.good) in
      record {
        places = way.places ++ own_places (open_of dir) is.view;
        names = is.names ∙ ap (λ (l : List (List ℕ × ObjKind)). l ++ map place_name (own_places (open_of dir) is.view)) way.names ∙ sym (map-append place_name way.places (own_places (open_of dir) is.view));
        walked = subst (λ (l : List Open). Walked have (walk_fault have) commit (way.places ++ own_places (open_of dir) is.view) l) (sym is.next) after;
      }

  -- a fault of this directory is the first of the order
  pub fault_found : (done' : List (List ℕ × ObjKind)) (end : WalkEnd) → RefusesBy (StopsAmong have (length done) (open_places have (open_of dir)) done done') end → RefusesBy (StopsIn have commit done') end
  fault_found done' (ends.Refused w) s =
      let places = open_places have (open_of dir) in
      let more = pending have (opens left) in
      let same : order have commit ≡ way.places ++ (places ++ more) = way.walked.same ∙ ap (λ l. way.places ++ pending have l) next_is in
      let first : IsFirst (first_walk_fault have commit) w = record {
        depth = s.is_first.depth;
        is = walked_fault places more way.walked (ap (pending have) next_is) (ap (λ (n : ℕ). first_of (walk_fault have) n places) placed ∙ s.is_first.is);
      } in
      let here = stops_before more (record { depth = s.is_first.depth; is = first_append (walk_fault have) (length done) places more ∙ ap (λ f. option_or f (first_of (walk_fault have) (length done + length places) more)) s.is_first.is }) s in
      let all = stops_after way.places {done = []} (omega (arith, placed)) way.walked.clean way.names (record { depth = first.depth; is = ap (first_of (walk_fault have) 0) (sym same) ∙ first.is }) here in
      record {
        is_first = first;
        rest = all.rest;
        front = ap (map place_name) same ∙ all.front ∙ ap (λ (l : List (List ℕ × ObjKind)). l ++ all.rest) (sym all.names);
        named = ap (λ l. option_map named_fault (first_of (place_fault have) 0 l)) same ∙ all.named ∙ ap (λ (l : List (List ℕ × ObjKind)). option_or (first_bad have l) (Some (told_fault w))) (sym all.names);
      }
  fault_found done' ends.HostFault is = tt
  fault_found done' ends.RemoteFault is = tt
  fault_found done' ends.NoMemory is = tt

-- the start
at_start : {have : Have} {commit : List ℕ} (dir : Dir) → IsRoot have commit dir → IsOnTheWay have commit ((commit, kinds.Commit) ∷ []) (dir ∷ [])
at_start {have = have} {commit = commit} dir root = record {
  places = commit_place commit ∷ [];
  names = refl;
  walked = record {
    same = ap (λ c. commit_place commit ∷ below_commit have c) root.read ∙ ap (λ (d : Dir). commit_place commit ∷ open_places have (open_of d)) (sym root.is)
        ∙ ap (λ l. commit_place commit ∷ l) (sym (append-nil (open_places have (open_of dir))));
    clean = ap (λ f. option_or (found_at (commit_place commit) f) None) root.good;
  };
}

-- a fault of the commit is the first of the order
pub commit_first : (have : Have) (commit : List ℕ) (end : WalkEnd) → RefusesBy (IsFaultOf commit kinds.Commit (own_fault have commit kinds.Commit)) end → RefusesBy (IsFirst (first_walk_fault have commit)) end
commit_first have commit end is = fault_first (walk_fault have) 0 (commit_place commit) (below_commit have (commit_at have commit)) end is

pub started : {have : Have} {commit : List ℕ} (dir : Dir) {done : List (List ℕ × ObjKind)} {left : List Dir} → done ≡ (commit, kinds.Commit) ∷ [] → left ≡ dir ∷ [] → IsRoot have commit dir → IsOnTheWay have commit done left
started {have = have} {commit = commit} dir {left = left} first alone root =
    subst (λ (l : List (List ℕ × ObjKind)). IsOnTheWay have commit l left) (sym first) (subst (λ (l : List Dir). IsOnTheWay have commit ((commit, kinds.Commit) ∷ []) l) (sym alone) (at_start dir root))
