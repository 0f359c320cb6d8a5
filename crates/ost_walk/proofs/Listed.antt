-- The files of a directory, put in order one by one.
use Rattle.std.proofs.Common.{◌≡◌, ◌<◌, ◌+◌, ℕ, suc, List, [], ◌∷◌, ◌++◌, take, drop, get_or, length, map, Bool, true, false, leb, if◌then◌else◌, Option, Some, None, refl, sym, ◌∙◌, ap, subst, arith, append_assoc, append-nil, length-append}
use Rattle.std.specs.Option.{option_or}
use Rattle.std.proofs.Math.Seq.{take-suc, take-length, drop-cons}
use Rattle.std.proofs.lemmas.List.{map-append, length-map, take-append-drop}
use Rattle.std.proofs.lemmas.Bool.{leb-false}
use Rattle.fp_base.specs.declared.object.ObjKind.{ObjKind}
use Rattle.fp_base.specs.declared.object.ObjKind.TheVariants as kinds
use Rattle.ost_model.specs.Fields.{FileRow}
use Rattle.std.specs.Prelude.{Result, Err, option_map}
use Rattle.ost_model.specs.Objects.{Have, Fault, object_fault, too_many, too_deep}
use Rattle.ost_model.specs.Order.{Place, file_place, file_places, first_of, found_at, place_fault, walk_fault, limited}
use Rattle.ost_model.proofs.Pending.{first_append}
use Rattle.ost_object.specs.declared.dirtree.FileEntry.{FileEntry}
use Rattle.ost_object.specs.Views.{file_row}
use Rattle.ost_walk.specs.declared.ends.ObjectFault.{ObjectFault}
use Rattle.ost_walk.specs.declared.ends.ObjectFault.TheVariants as faults
use Rattle.ost_walk.specs.declared.ends.WalkFault.{WalkFault}
use Rattle.ost_walk.specs.declared.ends.WalkEnd.{WalkEnd}
use Rattle.ost_walk.specs.declared.ends.WalkEnd.TheVariants as ends
use Rattle.ost_walk.specs.Ends.{IsLimit, IsFirst, RefusesBy, fault_of}
use Rattle.ost_walk.specs.Steps.{AreListed, limit_of, place_name}
use Rattle.ost_walk.specs.Surveys.{named_fault, first_bad, StopsAmong}
use Rattle.ost_walk.proofs.Surveyed.{named_append}

-- ---- limits

-- a place that passes no limit has the fault of its object
pub within_limits : (n : ℕ) (p : Place) (fault : Option Fault) → limit_of n p.depth ≡ None → limited n p fault ≡ fault
within_limits n p fault none = go (leb 200000 n) (leb 65 p.depth) none
  where
    go : (many deep : Bool) → (if many then Some faults.TooMany else (if deep then Some faults.TooDeep else None)) ≡ None → (if many then Some too_many else (if deep then Some too_deep else fault)) ≡ fault
    go true deep e = absurd (cc e)
    go false true e = absurd (cc e)
    go false false e = refl

pub limit_low : (n depth : ℕ) → limit_of n depth ≡ None → n < 200000
limit_low n depth none = go (leb 200000 n) refl none
  where
    go : (many : Bool) → leb 200000 n ≡ many → (if many then Some faults.TooMany else (if leb 65 depth then Some faults.TooDeep else None)) ≡ None → n < 200000
    go true is e = absurd (cc e)
    go false is e = leb-false 200000 n is

pub limit_deep : (n depth : ℕ) → limit_of n depth ≡ None → depth < 65
limit_deep n depth none = go (leb 200000 n) (leb 65 depth) refl none
  where
    go : (many deep : Bool) → leb 65 depth ≡ deep → (if many then Some faults.TooMany else (if deep then Some faults.TooDeep else None)) ≡ None → depth < 65
    go true deep is e = absurd (cc e)
    go false true is e = absurd (cc e)
    go false false is e = leb-false 65 depth is

-- and one that passes a limit has that fault
pub past_limits : (n : ℕ) (p : Place) (fault : Option Fault) (f : ObjectFault) → limit_of n p.depth ≡ Some f → limited n p fault ≡ Some (fault_of f)
past_limits n p fault f is = go (leb 200000 n) (leb 65 p.depth) is
  where
    go : (many deep : Bool) → (if many then Some faults.TooMany else (if deep then Some faults.TooDeep else None)) ≡ Some f → (if many then Some too_many else (if deep then Some too_deep else fault)) ≡ Some (fault_of f)
    go true deep e = let eq : faults.TooMany ≡ f = cc e in ap (λ (g : ObjectFault). Some (fault_of g)) eq
    go false true e = let eq : faults.TooDeep ≡ f = cc e in ap (λ (g : ObjectFault). Some (fault_of g)) eq
    go false false e = absurd (cc e)

-- ---- places

pub places_append : (depth : ℕ) (xs ys : List FileRow) → file_places depth (xs ++ ys) ≡ file_places depth xs ++ file_places depth ys
places_append depth [] ys = refl
places_append depth (x ∷ xs) ys = ap (λ l. file_place depth x ∷ l) (places_append depth xs ys)

pub first_one : (test : ℕ → Place → Option Fault) (n : ℕ) (p : Place) (ps : List Place) → test n p ≡ None → first_of test n (p ∷ ps) ≡ first_of test (suc n) ps
first_one test n p ps none = ap (λ f. option_or (found_at p f) (first_of test (suc n) ps)) none

pub first_found : (test : ℕ → Place → Option Fault) (n : ℕ) (p : Place) (ps : List Place) (f : Fault) → test n p ≡ Some f → first_of test n (p ∷ ps) ≡ Some (p, f)
first_found test n p ps f some = ap (λ g. option_or (found_at p g) (first_of test (suc n) ps)) some

module _ {have : Have} {depth : ℕ} {rows : List FileRow} {done done' : List (List ℕ × ObjKind)} (so_far : AreListed have depth rows done done') where
  long : length done' ≡ length done + length (file_places depth rows)
  long = ap (λ (l : List (List ℕ × ObjKind)). length l) so_far.names ∙ length-append done (map place_name (file_places depth rows)) ∙ ap (λ (k : ℕ). length done + k) (length-map (file_places depth rows) place_name)

  -- the faults of the files that follow
  pub first_after : (more : List FileRow) → first_of (walk_fault have) (length done) (file_places depth (rows ++ more)) ≡ first_of (walk_fault have) (length done') (file_places depth more)
  first_after more =
      ap (first_of (walk_fault have) (length done)) (places_append depth rows more) ∙ first_append (walk_fault have) (length done) (file_places depth rows) (file_places depth more)
      ∙ ap (λ f. option_or f (first_of (walk_fault have) (length done + length (file_places depth rows)) (file_places depth more))) so_far.good
      ∙ ap (λ (n : ℕ). first_of (walk_fault have) n (file_places depth more)) (sym long)

  -- one file more
  pub one_listed : (f : FileRow) (done'' : List (List ℕ × ObjKind)) → limit_of (length done') depth ≡ None → done'' ≡ done' ++ (f.digest, kinds.File) ∷ [] → AreListed have depth (rows ++ f ∷ []) done done''
  one_listed f done'' none added = record {
    good = first_after (f ∷ []) ∙ first_one (walk_fault have) (length done') (file_place depth f) [] (within_limits (length done') (file_place depth f) None none);
    names = added ∙ ap (λ (l : List (List ℕ × ObjKind)). l ++ (f.digest, kinds.File) ∷ []) so_far.names
        ∙ append_assoc done (map place_name (file_places depth rows)) ((f.digest, kinds.File) ∷ [])
        ∙ ap (λ (l : List (List ℕ × ObjKind)). done ++ l) (sym (map-append place_name (file_places depth rows) (file_place depth f ∷ [])) ∙ ap (map place_name) (sym (places_append depth rows (f ∷ []))));
  }

  -- one file that passes a limit
  pub one_refused : (f : FileRow) (more : List FileRow) {w : WalkFault} → IsLimit f.digest kinds.File (limit_of (length done') depth) w → IsFirst (first_of (walk_fault have) (length done) (file_places depth (rows ++ f ∷ more))) w
  one_refused f more {w = w} is = record {
    depth = depth;
    is = first_after (f ∷ more) ∙ first_found (walk_fault have) (length done') (file_place depth f) (file_places depth more) (fault_of w.fault) (past_limits (length done') (file_place depth f) None w.fault is.limit_is)
        ∙ ap (λ (d : List ℕ). Some (record { digest = d; kind = kinds.File; depth = depth }, fault_of w.fault)) (sym is.digest)
        ∙ ap (λ (k : ObjKind). Some (record { digest = w.digest; kind = k; depth = depth }, fault_of w.fault)) (sym is.kind_is);
  }

  -- so the walk of the files stops there
  pub one_stopped : (f : FileRow) (more : List FileRow) {w : WalkFault} → IsLimit f.digest kinds.File (limit_of (length done') depth) w → StopsAmong have (length done) (file_places depth (rows ++ f ∷ more)) done done' w
  one_stopped f more {w = w} is = record {
    is_first = one_refused f more is;
    new = map place_name (file_places depth rows);
    rest = map place_name (file_places depth (f ∷ more));
    names = so_far.names;
    front = ap (map place_name) (places_append depth rows (f ∷ more)) ∙ map-append place_name (file_places depth rows) (file_places depth (f ∷ more));
    named = ap (λ l. option_map named_fault (first_of (place_fault have) (length done) l)) (places_append depth rows (f ∷ more))
        ∙ named_append have (length done) (length done') (file_places depth rows) (file_places depth (f ∷ more)) long so_far.good
        ∙ ap (λ found. option_or (first_bad have (map place_name (file_places depth rows))) (option_map named_fault found))
        (first_found (place_fault have) (length done') (file_place depth f) (file_places depth more) (fault_of w.fault)
        (past_limits (length done') (file_place depth f) (object_fault f.digest kinds.File (have f.digest kinds.File)) w.fault is.limit_is))
        ∙ ap (λ (d : List ℕ). option_or (first_bad have (map place_name (file_places depth rows))) (Some ((d, kinds.File), fault_of w.fault))) (sym is.digest)
        ∙ ap (λ (k : ObjKind). option_or (first_bad have (map place_name (file_places depth rows))) (Some ((w.digest, k), fault_of w.fault))) (sym is.kind_is);
  }

-- ---- over a list of entries

rows_split : (files : List FileEntry) (i : ℕ) (f : FileEntry) → i < length files → f ≡ get_or files i f → map file_row files ≡ map file_row (take i files) ++ file_row f ∷ map file_row (drop (suc i) files)
rows_split files i f low is =
    ap (map file_row) (sym (take-append-drop i files) ∙ ap (λ l. take i files ++ l) (drop-cons files i f low ∙ ap (λ (g : FileEntry). g ∷ drop (suc i) files) (sym is))) ∙ map-append file_row (take i files) (f ∷ drop (suc i) files)

pub none_listed : {have : Have} (depth : ℕ) (done : List (List ℕ × ObjKind)) → AreListed have depth [] done done
none_listed depth done = record { good = refl; names = sym (append-nil done) }

pub next_listed : {have : Have} {depth : ℕ} (files : List FileEntry) (i : ℕ) (f : FileEntry) {done done' done'' : List (List ℕ × ObjKind)} → i < length files → f ≡ get_or files i f
    → AreListed have depth (map file_row (take i files)) done done' → limit_of (length done') depth ≡ None → done'' ≡ done' ++ (f.digest, kinds.File) ∷ [] → AreListed have depth (map file_row (take (i + 1) files)) done done''
next_listed {have = have} {depth = depth} files i f {done = done} {done'' = done''} low is so_far none added =
    let more : i + 1 ≡ suc i = omega arith in
    let took : map file_row (take (i + 1) files) ≡ map file_row (take i files) ++ file_row f ∷ [] =
    ap (λ (k : ℕ). map file_row (take k files)) more ∙ ap (map file_row) (take-suc files i f low ∙ ap (λ (g : FileEntry). take i files ++ g ∷ []) (sym is)) ∙ map-append file_row (take i files) (f ∷ []) in
    subst (λ (l : List FileRow). AreListed have depth l done done'') (sym took) (one_listed so_far (file_row f) done'' none added)

pub next_refused : {have : Have} {depth : ℕ} (files : List FileEntry) (i : ℕ) (f : FileEntry) {done done' done'' : List (List ℕ × ObjKind)} {w : WalkFault} → i < length files → f ≡ get_or files i f
    → AreListed have depth (map file_row (take i files)) done done' → IsLimit f.digest kinds.File (limit_of (length done') depth) w → done'' ≡ done'
    → StopsAmong have (length done) (file_places depth (map file_row files)) done done'' w
next_refused {have = have} {depth = depth} files i f {done = done} {done'' = done''} {w = w} low is so_far stops same =
    subst (λ (l : List FileRow). StopsAmong have (length done) (file_places depth l) done done'' w) (sym (rows_split files i f low is))
    (subst (λ (l : List (List ℕ × ObjKind)). StopsAmong have (length done) (file_places depth (map file_row (take i files) ++ file_row f ∷ map file_row (drop (suc i) files))) done l w) (sym same)
    (one_stopped so_far (file_row f) (map file_row (drop (suc i) files)) stops))

pub all_listed : {have : Have} {depth : ℕ} (files : List FileEntry) {done done' : List (List ℕ × ObjKind)} (i : ℕ) → length files ≡ i → AreListed have depth (map file_row (take i files)) done done' → AreListed have depth (map file_row files) done done'
all_listed {have = have} {depth = depth} files {done = done} {done' = done'} i is so_far = subst (λ (l : List FileEntry). AreListed have depth (map file_row l) done done') (ap (λ (k : ℕ). take k files) (sym is) ∙ take-length files) so_far

-- where one of them is refused
pub stopped : {have : Have} {depth : ℕ} (files : List FileEntry) (i : ℕ) (f : FileEntry) {done done' done'' : List (List ℕ × ObjKind)} (end : WalkEnd) → i < length files → f ≡ get_or files i f
    → AreListed have depth (map file_row (take i files)) done done' → RefusesBy (IsLimit f.digest kinds.File (limit_of (length done') depth)) end
    → ((w : WalkFault) → ◌≡◌ {A = Result (Unit {0}) WalkEnd} (Err end) (Err (ends.Refused w)) → done'' ≡ done')
    → RefusesBy (StopsAmong have (length done) (file_places depth (map file_row files)) done done'') end
stopped files i f (ends.Refused w) low is so_far r same = next_refused files i f low is so_far r (same w refl)
stopped files i f ends.HostFault low is so_far r same = tt
stopped files i f ends.RemoteFault low is so_far r same = tt
stopped files i f ends.NoMemory low is so_far r same = tt
