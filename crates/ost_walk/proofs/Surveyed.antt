-- The first fault of an order, from what a walk over metadata objects finds.
use Rattle.std.proofs.Common.{◌≡◌, ◌+◌, ℕ, suc, List, [], ◌∷◌, ◌++◌, map, Bool, true, false, leb, if◌then◌else◌, length, Option, Some, None, Result, Ok, Err, refl, sym, ◌∙◌, ap, subst, append_assoc, append-nil, arith}
use Rattle.std.specs.Option.{option_or}
use Rattle.std.specs.Prelude.{option_map}
use Rattle.std.proofs.lemmas.List.{map-append}
use Rattle.fp_base.specs.declared.object.ObjKind.{ObjKind}
use Rattle.fp_base.specs.declared.object.ObjKind.TheVariants as kinds
use Rattle.fp_base.proofs.Options.{or_alone, or_assoc}
use Rattle.ost_model.specs.Objects.{Have, Fault, too_many, too_deep, object_fault}
use Rattle.ost_model.specs.Order.{Place, order, first_of, found_at, first_fault, first_walk_fault, place_fault, walk_fault, limited, of_metadata, commit_place, below_commit, commit_at}
use Rattle.ost_model.specs.Walk.{open_places, heads}
use Rattle.ost_model.proofs.Places.{or_none, found_none}
use Rattle.ost_model.proofs.Pending.{first_append, with_heads, walked_end}
use Rattle.ost_walk.specs.declared.dirs.Dir.{Dir}
use Rattle.ost_walk.specs.declared.ends.WalkFault.{WalkFault}
use Rattle.ost_walk.specs.declared.ends.WalkEnd.{WalkEnd}
use Rattle.ost_walk.specs.declared.ends.WalkEnd.TheVariants as ends
use Rattle.ost_walk.specs.declared.surveys.Survey.{Survey}
use Rattle.ost_walk.specs.Ends.{RefusesBy, EndsBy, IsFirst, IsFaultOf, Observes, Outside, fault_of}
use Rattle.ost_walk.specs.Steps.{IsOnTheWay, IsOrder, own_fault, heads_fault, heads_of, open_of, opens, place_name}
use Rattle.ost_walk.specs.Surveys.{named_fault, first_named, found_in, first_bad, told_fault, IsFirstIfAny, IsSurvey, StopsAmong, StopsIn, stopped_at, unless_faulty}
use Rattle.ost_walk.proofs.Quiet.{looks_ok, looks_err}

abbrev Object : Type 0
Object = List ℕ × ObjKind

abbrev Named : Type 0
Named = Object × Fault

-- ---- options

-- what is said after a value plays no part
or_some : {A : Type 0} (a : Option A) (x : A) (c : Option A) → option_or (option_or a (Some x)) c ≡ option_or a (Some x)
or_some None x c = refl
or_some (Some y) x c = refl

named_or : (a b : Option (Place × Fault)) → option_map named_fault (option_or a b) ≡ option_or (option_map named_fault a) (option_map named_fault b)
named_or None b = refl
named_or (Some f) b = refl

named_found : (p : Place) (f : Option Fault) → option_map named_fault (found_at p f) ≡ found_in (place_name p) f
named_found p None = refl
named_found p (Some f) = refl

-- ---- objects

pub bad_append : (have : Have) (xs ys : List Object) → first_bad have (xs ++ ys) ≡ option_or (first_bad have xs) (first_bad have ys)
bad_append have [] ys = refl
bad_append have (o ∷ xs) ys =
    let f = found_in o (object_fault o.0 o.1 (have o.0 o.1)) in
    ap (option_or f) (bad_append have xs ys) ∙ sym (or_assoc f (first_bad have xs) (first_bad have ys))

within : (many deep : Bool) (f g : Option Fault) → (if many then Some too_many else (if deep then Some too_deep else g)) ≡ None → (if many then Some too_many else (if deep then Some too_deep else f)) ≡ f
within true deep f g none = absurd (cc none)
within false true f g none = absurd (cc none)
within false false f g none = refl

-- a place without a fault of the walk has the fault of its object
own_place : (have : Have) (n : ℕ) (p : Place) → walk_fault have n p ≡ None → place_fault have n p ≡ own_fault have p.digest p.kind
own_place have n p none = within (leb 200000 n) (leb 65 p.depth) (own_fault have p.digest p.kind) (of_metadata p.kind (own_fault have p.digest p.kind)) none

-- where the walk finds no fault, the first fault is that of an object itself
pub clean_bad : (have : Have) (n : ℕ) (ps : List Place) → first_of (walk_fault have) n ps ≡ None → option_map named_fault (first_of (place_fault have) n ps) ≡ first_bad have (map place_name ps)
clean_bad have n [] none = refl
clean_bad have n (p ∷ ps) none =
    let both = or_none (found_at p (walk_fault have n p)) (first_of (walk_fault have) (suc n) ps) none in
    let own = own_place have n p (found_none p (walk_fault have n p) both.0) in
    named_or (found_at p (place_fault have n p)) (first_of (place_fault have) (suc n) ps)
    ∙ ap (λ (f : Option Named). option_or f (option_map named_fault (first_of (place_fault have) (suc n) ps))) (named_found p (place_fault have n p) ∙ ap (found_in (place_name p)) own)
    ∙ ap (option_or (found_in (place_name p) (own_fault have p.digest p.kind))) (clean_bad have (suc n) ps both.1)

-- the first fault of two lists of places, of which the walk finds none in the first
pub named_append : (have : Have) (n m : ℕ) (ps qs : List Place) → m ≡ n + length ps → first_of (walk_fault have) n ps ≡ None
    → option_map named_fault (first_of (place_fault have) n (ps ++ qs)) ≡ option_or (first_bad have (map place_name ps)) (option_map named_fault (first_of (place_fault have) m qs))
named_append have n m ps qs at none =
    ap (option_map named_fault) (first_append (place_fault have) n ps qs) ∙ named_or (first_of (place_fault have) n ps) (first_of (place_fault have) (n + length ps) qs)
    ∙ ap (λ (f : Option Named). option_or f (option_map named_fault (first_of (place_fault have) (n + length ps) qs))) (clean_bad have n ps none)
    ∙ ap (λ (k : ℕ). option_or (first_bad have (map place_name ps)) (option_map named_fault (first_of (place_fault have) k qs))) (sym at)

named_first : (found : Option (Place × Fault)) (w : WalkFault) → IsFirst found w → option_map named_fault found ≡ Some (told_fault w)
named_first found w is = ap (option_map named_fault) is.is

-- ---- places that follow, and places that are before

-- places more, after those among which the walk stops
pub stops_before : {have : Have} {n : ℕ} {ps : List Place} {done done' : List Object} {w : WalkFault} (more : List Place) → IsFirst (first_of (walk_fault have) n (ps ++ more)) w → StopsAmong have n ps done done' w → StopsAmong have n (ps ++ more) done done' w
stops_before {have = have} {n = n} {ps = ps} {w = w} more is s = record {
  is_first = is;
  new = s.new;
  rest = s.rest ++ map place_name more;
  names = s.names;
  front = map-append place_name ps more ∙ ap (λ (l : List Object). l ++ map place_name more) s.front ∙ append_assoc s.new s.rest (map place_name more);
  named = ap (option_map named_fault) (first_append (place_fault have) n ps more) ∙ named_or (first_of (place_fault have) n ps) (first_of (place_fault have) (n + length ps) more)
      ∙ ap (λ (f : Option Named). option_or f (option_map named_fault (first_of (place_fault have) (n + length ps) more))) s.named
      ∙ or_some (first_bad have s.new) (told_fault w) (option_map named_fault (first_of (place_fault have) (n + length ps) more));
}

-- places without a fault of the walk, which are in order already
pub stops_after : {have : Have} {n m : ℕ} (ps : List Place) {qs : List Place} {done done' done'' : List Object} {w : WalkFault} → m ≡ n + length ps → first_of (walk_fault have) n ps ≡ None → done' ≡ done ++ map place_name ps
    → IsFirst (first_of (walk_fault have) n (ps ++ qs)) w → StopsAmong have m qs done' done'' w → StopsAmong have n (ps ++ qs) done done'' w
stops_after {have = have} {n = n} {m = m} ps {qs = qs} {done = done} {w = w} at none first is s = record {
  is_first = is;
  new = map place_name ps ++ s.new;
  rest = s.rest;
  names = s.names ∙ ap (λ (l : List Object). l ++ s.new) first ∙ append_assoc done (map place_name ps) s.new;
  front = map-append place_name ps qs ∙ ap (λ (l : List Object). map place_name ps ++ l) s.front ∙ sym (append_assoc (map place_name ps) s.new s.rest);
  named = named_append have n m ps qs at none ∙ ap (option_or (first_bad have (map place_name ps))) s.named
      ∙ sym (or_assoc (first_bad have (map place_name ps)) (first_bad have s.new) (Some (told_fault w)))
      ∙ ap (λ (f : Option Named). option_or f (Some (told_fault w))) (sym (bad_append have (map place_name ps) s.new));
}

-- ---- a directory whose dirtree or dirmeta has the fault

heads_named : (have : Have) (n : ℕ) (dir : Dir) (w : WalkFault) → IsFirst (heads_fault have n dir) w → option_map named_fault (first_of (place_fault have) n (heads (open_of dir))) ≡ Some (told_fault w)
heads_named have n dir w is = named_first (first_of (walk_fault have) n (heads (open_of dir))) w is

pub heads_stop : (have : Have) (n : ℕ) (dir : Dir) (done : List Object) (w : WalkFault) → IsFirst (first_of (walk_fault have) n (open_places have (open_of dir))) w → IsFirst (heads_fault have n dir) w → StopsAmong have n (open_places have (open_of dir)) done done w
heads_stop have n dir done w first is =
    let split = with_heads have (open_of dir) in
    record {
      is_first = first;
      new = [];
      rest = map place_name (open_places have (open_of dir));
      names = sym (append-nil done);
      front = refl;
      named = ap (λ l. option_map named_fault (first_of (place_fault have) n l)) split.1 ∙ ap (option_map named_fault) (first_append (place_fault have) n (heads (open_of dir)) split.0)
          ∙ named_or (first_of (place_fault have) n (heads (open_of dir))) (first_of (place_fault have) (n + 2) split.0)
          ∙ ap (λ (f : Option Named). option_or f (option_map named_fault (first_of (place_fault have) (n + 2) split.0))) (heads_named have n dir w is);
    }

-- ---- the commit

module _ {have : Have} {commit : List ℕ} where
  pub whole_survey : {done : List Object} → IsOnTheWay have commit done [] → IsSurvey have commit (record { objects = done; fault = None })
  whole_survey {done = done} way =
      let all = walked_end way.walked in
      let same : done ≡ map place_name (order have commit) = way.names ∙ ap (map place_name) all.0 in
      record {
        walk = all.1;
        rest = [];
        front = sym same ∙ sym (append-nil done);
        whole = λ none. same;
        first = clean_bad have 0 (order have commit) all.1 ∙ ap (first_bad have) (sym same) ∙ sym (or_alone (first_bad have done));
      }

  -- the order, where the survey tells no fault
  pub order_told : (s : Survey) → IsSurvey have commit s → EndsBy (IsOrder have commit) (IsFirst (first_walk_fault have commit)) (unless_faulty s.objects s.fault)
  order_told s is = go s.fault is.walk is.whole
    where
      go : (fault : Option WalkFault) → IsFirstIfAny (first_walk_fault have commit) fault → (fault ≡ None → s.objects ≡ map place_name (order have commit)) → EndsBy (IsOrder have commit) (IsFirst (first_walk_fault have commit)) (unless_faulty s.objects fault)
      go None walk whole = record { names = whole refl; good = walk }
      go (Some w) walk whole = walk

pub part_survey : (have : Have) (commit : List ℕ) (done : List Object) (end : WalkEnd) → RefusesBy (StopsIn have commit done) end → EndsBy (IsSurvey have commit) (λ w. ⊥) (stopped_at done end)
part_survey have commit done (ends.Refused w) s = record { walk = s.is_first; rest = s.rest; front = s.front; whole = λ none. absurd (cc none); first = s.named }
part_survey have commit done ends.HostFault s = tt
part_survey have commit done ends.RemoteFault s = tt
part_survey have commit done ends.NoMemory s = tt

-- the commit itself has the fault
pub commit_stops : (have : Have) (commit : List ℕ) (end : WalkEnd) → RefusesBy (IsFaultOf commit kinds.Commit (own_fault have commit kinds.Commit)) end → RefusesBy (IsFirst (first_walk_fault have commit)) end → RefusesBy (StopsIn have commit []) end
commit_stops have commit (ends.Refused w) is first = record {
  is_first = first;
  rest = map place_name (order have commit);
  front = refl;
  named = ap (λ f. option_map named_fault (option_or (found_at (commit_place commit) f) (first_of (place_fault have) 1 (below_commit have (commit_at have commit))))) is.fault_is
      ∙ ap (λ (d : List ℕ). Some ((d, kinds.Commit), fault_of w.fault)) (sym is.digest) ∙ ap (λ (k : ObjKind). Some ((w.digest, k), fault_of w.fault)) (sym is.kind_is);
}
commit_stops have commit ends.HostFault is first = tt
commit_stops have commit ends.RemoteFault is first = tt
commit_stops have commit ends.NoMemory is first = tt

-- ---- what was looked at

pub looks_as : {A : Type 0} {r s : Result A WalkEnd} {u w : Outside} → r ≡ s → Observes s u w → Observes r u w
looks_as {u = u} {w = w} same looks = subst (λ q. Observes q u w) (sym same) looks

pub looks_stopped : {A : Type 0} {u w : Outside} (done : List Object) (end : WalkEnd) → Observes {A = A} (Err end) u w → Observes (stopped_at done end) u w
looks_stopped done (ends.Refused f) looks = looks_ok (record { objects = done; fault = Some f }) looks
looks_stopped done ends.HostFault looks = looks_err looks
looks_stopped done ends.RemoteFault looks = looks_err looks
looks_stopped done ends.NoMemory looks = looks_err looks

pub looks_whole : {s : Survey} {u w : Outside} → Observes (Ok s) u w → Observes (unless_faulty s.objects s.fault) u w
looks_whole {s = s} {u = u} {w = w} looks = go s.fault
  where
    go : (fault : Option WalkFault) → Observes (unless_faulty s.objects fault) u w
    go None = looks_ok s.objects looks
    go (Some f) = record {
      still = looks.still;
      same = looks.same;
      host = record { later = looks.host.later; fault = λ is. absurd (cc is) };
      remote = record { later = looks.remote.later; rose = λ is. absurd (cc is) };
    }
