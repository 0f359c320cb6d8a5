-- One answer after another.
use Rattle.std.proofs.Common.{◌≡◌, ℕ, List, [], ◌∷◌, ◌++◌, append_assoc, Bool, true, false, ◌||◌, Option, Some, None, Result, Ok, Err, refl, sym, ◌∙◌, ap, subst}
use Rattle.std.proofs.lemmas.List.{append-nil}
use Rattle.std.proofs.lemmas.List.Folds.{list_any-append}
use Rattle.std.proofs.lemmas.Grind.{flat_map-append}
use Rattle.std.proofs.lemmas.List.Elements.{filter_map-append}
use Rattle.std.proofs.lemmas.Bool.{or_parts}
use Rattle.fp_host.specs.Remote.{Holdings}
use Rattle.fp_host.specs.View.{View}
use Rattle.fp_host.specs.Outcome.{Disk, shows}
use Rattle.fp_small.specs.Config.{config_text}
use Rattle.fp_small.specs.declared.config.Settings.{Settings}
use Rattle.fp_small.specs.declared.state.State.{State}
use Rattle.fp_small.specs.declared.state.RefRow.{RefRow}
use Rattle.fp_small.specs.declared.state.Previous.{Previous}
use Rattle.fp_small.specs.declared.op.Op.{Op}
use Rattle.fp_small.specs.declared.op.Op.TheVariants.{Install, Update, Uninstall, AddPin, DropPin, AddRemote, ModifyRemote, DropRemote, SetOverride, DropOverride, Migrate, Rollback}
use Rattle.fp_small.specs.declared.refusal.Refusal.{Refusal}
use Rattle.fp_small.specs.Files.{KeepsFiles}
use Rattle.fp_small.proofs.Keeping.{files_stay, files_on}
use Rattle.dep_states.proofs.SharedAs.{shared_on}
use Rattle.dep_states.specs.Shown.{Shows, settings_of}
use Rattle.dep_states.specs.Sound.{Opens}
use Rattle.dep_states.specs.Settled.{Settled}
use Rattle.dep_states.specs.After.{Done, row_at, state_after, after_all, after_op, updated, rolled_back, back}
use Rattle.fl_change.specs.World.{World, world_at, world_after, worlds_after}
use Rattle.fl_change.specs.Answer.{Answer, Piece, lines_of, last_of, pieces_text, ops_in, ops_of, nothing, continued, followed, then_over, each_over, sets_config, set_config, has_acted, IsUnpulled}
use Rattle.fl_change.specs.Changes.{HasText, OnlyTidied}
use Rattle.fl_change.specs.Performs.{Printed, IsSome, Performs, Holds, IsDone, Performed, Acted, Rests}
use Rattle.fl_change.specs.declared.end.RunEnd.{RunEnd}
use Rattle.fl_change.specs.declared.end.RunEnd.TheVariants.{Refused, Fault, RemoteFault, NoMemory}
use Rattle.fl_change.proofs.Changing.{tidied_on, still_on, text_on}
use Rattle.fl_change.proofs.Created.{created_both}
use Rattle.fl_change.proofs.Doing.{none_done}
use Rattle.fl_change.proofs.Worlds.{holds_at, world_held, worlds_state}

-- ---- pieces, and the worlds that operations make

pub joined-append : (xs ys : List Piece) → pieces_text (xs ++ ys) ≡ pieces_text xs ++ pieces_text ys
joined-append xs ys = flat_map-append (λ (piece : Piece). piece.text) xs ys

pub ops-append : (xs ys : List Piece) → ops_in (xs ++ ys) ≡ ops_in xs ++ ops_in ys
ops-append xs ys = filter_map-append (λ (piece : Piece). piece.op) xs ys

pub after-append : (xs ys : List Done) (s : State) → after_all s (xs ++ ys) ≡ after_all (after_all s xs) ys
after-append [] ys s = refl
after-append (op ∷ xs) ys s = after-append xs ys (state_after s op)

worlds-append : (held : Holdings) (xs ys : List Done) (x : World) → worlds_after held x (xs ++ ys) ≡ worlds_after held (worlds_after held x xs) ys
worlds-append held [] ys x = refl
worlds-append held (op ∷ xs) ys x = worlds-append held xs ys (world_after held x op)

abbrev pub unrefused : List Piece → Answer
unrefused pieces = record { pieces = pieces; refusal = None }

-- where two lists come to nothing, each is empty
first_none : (xs ys : List Done) → xs ++ ys ≡ [] → xs ≡ []
first_none [] ys none = refl
first_none (x ∷ xs) ys none = absurd (cc none)

second_none : (xs ys : List Done) → xs ++ ys ≡ [] → ys ≡ []
second_none [] ys none = none
second_none (x ∷ xs) ys none = absurd (cc none)

-- the state after the operations of pieces and of what comes after them
after_pieces : (s t : State) (pieces : List Piece) (ops : List Done) → t ≡ after_all s (ops_in pieces) → after_all s (ops_in pieces ++ ops) ≡ after_all t ops
after_pieces s t pieces ops is = after-append (ops_in pieces) ops s ∙ ap (λ (x : State). after_all x ops) (sym is)

worlds_pieces : (held : Holdings) (x y : World) (pieces more : List Piece) → y ≡ worlds_after held x (ops_in pieces) → worlds_after held y (ops_in more) ≡ worlds_after held x (ops_in (pieces ++ more))
worlds_pieces held x y pieces more is = ap (λ (z : World). worlds_after held z (ops_in more)) is ∙ sym (worlds-append held (ops_in pieces) (ops_in more) x) ∙ ap (worlds_after held x) (sym (ops-append pieces more))

-- ---- whether an operation was done

acted_stays : (ops : List Done) → true ≡ has_acted true ops
acted_stays [] = refl
acted_stays (op ∷ ops) = refl

acted-append : (before : Bool) (xs ys : List Done) → has_acted before (xs ++ ys) ≡ has_acted (has_acted before xs) ys
acted-append before [] ys = refl
acted-append before (op ∷ xs) ys = acted_stays ys

acted_both : (pieces : List Piece) (b : Answer) (before now after : Bool) → now ≡ has_acted before (ops_in pieces) → after ≡ has_acted now (ops_of b) → after ≡ has_acted before (ops_of (continued pieces None b))
acted_both pieces b before now after first next =
    next ∙ ap (λ (x : Bool). has_acted x (ops_of b)) first ∙ sym (acted-append before (ops_in pieces) (ops_of b)) ∙ ap (λ (l : List Done). has_acted before l) (sym (ops-append pieces b.pieces))

-- it is told of both
acted_onto : (pieces : List Piece) (b : Answer) (r : Result State RunEnd) (before now after : Bool) → now ≡ has_acted before (ops_in pieces) → Acted b r now after → Acted (continued pieces None b) r before after
acted_onto pieces b (Ok t) before now after first next = acted_both pieces b before now after first next
acted_onto pieces b (Err (Refused refusal)) before now after first next = acted_both pieces b before now after first next
acted_onto pieces b (Err Fault) before now after first next = tt
acted_onto pieces b (Err RemoteFault) before now after first next = tt
acted_onto pieces b (Err NoMemory) before now after first next = tt

-- ---- the first of two

-- what was printed of the first answer
printed_first : (pieces : List Piece) (b : Answer) (said : List Piece) {v w : View} → Printed (unrefused pieces) said v w → Printed (continued pieces None b) said v w
printed_first pieces b said printed = record {
  left = printed.left ++ lines_of b;
  pieces = append_assoc pieces b.pieces (last_of b.refusal) ∙ ap (λ (l : List Piece). l ++ lines_of b) (sym (append-nil pieces) ∙ printed.pieces) ∙ append_assoc said printed.left (lines_of b);
  printed = printed.printed;
}

some_first : (pieces : List Piece) (b : Answer) (acknowledged : List Done) (s : State) {disk : Disk} → IsSome (unrefused pieces) acknowledged s disk → IsSome (continued pieces None b) acknowledged s disk
some_first pieces b acknowledged s some = record {
  done = some.done;
  undone = some.undone ++ ops_in b.pieces;
  prefix = ops-append pieces b.pieces ∙ ap (λ (l : List Done). l ++ ops_in b.pieces) some.prefix ∙ append_assoc some.done some.undone (ops_in b.pieces);
  more = some.more;
  holds = some.holds;
  shown = some.shown;
  sound = some.sound;
}

performs_continued : (pieces : List Piece) (o : Option Refusal) (b : Answer) (s : State) {v w : View} → Performs (record { pieces = pieces; refusal = o }) s v w → Performs (continued pieces o b) s v w
performs_continued pieces None b s performs = record {
  said = performs.said;
  so_far = printed_first pieces b performs.said performs.so_far;
  files = performs.files;
  only_tidied = λ idle. performs.only_tidied (first_none (ops_in pieces) (ops_in b.pieces) (sym (ops-append pieces b.pieces) ∙ idle.0), tt);
  still = λ idle settled. performs.still (first_none (ops_in pieces) (ops_in b.pieces) (sym (ops-append pieces b.pieces) ∙ idle.0), tt) settled;
  some = λ disk left. some_first pieces b (ops_in performs.said) s (performs.some disk left);
}
performs_continued pieces (Some refusal) b s performs = performs

-- at every moment of the first, it is the two
performs_followed : (a b : Answer) (s : State) {v w : View} → Performs a s v w → Performs (followed a b) s v w
performs_followed a b s performs = performs_continued a.pieces a.refusal b s performs

failed_continued : (held : Holdings) (pieces : List Piece) (o : Option Refusal) (b : Answer) (x : World) (e : RunEnd) (v w : View) → Performed held (record { pieces = pieces; refusal = o }) x (Err e) v w → Performed held (continued pieces o b) x (Err e) v w
failed_continued held pieces None b x (Refused refusal) v w failed = absurd (cc failed.0)
failed_continued held pieces None b x Fault v w failed = tt
failed_continued held pieces None b x RemoteFault v w failed = record { said = failed.said; so_far = printed_first pieces b failed.said failed.so_far; opens = failed.opens }
failed_continued held pieces None b x NoMemory v w failed = record { said = failed.said; so_far = printed_first pieces b failed.said failed.so_far; opens = failed.opens }
failed_continued held pieces (Some refusal) b x e v w failed = failed

-- where the first fails, the two do
failed_followed : (held : Holdings) (a b : Answer) (x : World) (e : RunEnd) (v w : View) → Performed held a x (Err e) v w → Performed held (followed a b) x (Err e) v w
failed_followed held a b x e v w failed = failed_continued held a.pieces a.refusal b x e v w failed

acted_continued : (held : Holdings) (pieces : List Piece) (o : Option Refusal) (b : Answer) (x : World) (e : RunEnd) (v w : View) (before after : Bool) → Performed held (record { pieces = pieces; refusal = o }) x (Err e) v w → Acted (record { pieces = pieces; refusal = o }) (Err e) before after → Acted (continued pieces o b) (Err e) before after
acted_continued held pieces None b x (Refused refusal) v w before after failed acted = absurd (cc failed.0)
acted_continued held pieces None b x Fault v w before after failed acted = tt
acted_continued held pieces None b x RemoteFault v w before after failed acted = tt
acted_continued held pieces None b x NoMemory v w before after failed acted = tt
acted_continued held pieces (Some refusal) b x e v w before after failed acted = acted

acted_followed : (held : Holdings) (a b : Answer) (x : World) (e : RunEnd) (v w : View) (before after : Bool) → Performed held a x (Err e) v w → Acted a (Err e) before after → Acted (followed a b) (Err e) before after
acted_followed held a b x e v w before after failed acted = acted_continued held a.pieces a.refusal b x e v w before after failed acted

-- ---- the second of two

-- what was printed of the second answer
printed_second : (pieces : List Piece) (b : Answer) (said : List Piece) {v w x : View} → w.printed ≡ v.printed ++ pieces_text pieces → Printed b said w x → Printed (continued pieces None b) (pieces ++ said) v x
printed_second pieces b said {v = v} first printed = record {
  left = printed.left;
  pieces = append_assoc pieces b.pieces (last_of b.refusal) ∙ ap (λ (l : List Piece). pieces ++ l) printed.pieces ∙ sym (append_assoc pieces said printed.left);
  printed = printed.printed ∙ ap (λ (p : List ℕ). p ++ pieces_text said) first ∙ append_assoc v.printed (pieces_text pieces) (pieces_text said) ∙ ap (λ (p : List ℕ). v.printed ++ p) (sym (joined-append pieces said));
}

some_second : (pieces : List Piece) (b : Answer) (said : List Piece) (s t : State) {disk : Disk} → t ≡ after_all s (ops_in pieces) → IsSome b (ops_in said) t disk → IsSome (continued pieces None b) (ops_in (pieces ++ said)) s disk
some_second pieces b said s t {disk = disk} is some = record {
  done = ops_in pieces ++ some.done;
  undone = some.undone;
  prefix = ops-append pieces b.pieces ∙ ap (λ (l : List Done). ops_in pieces ++ l) some.prefix ∙ sym (append_assoc (ops_in pieces) some.done some.undone);
  more = some.more;
  holds = ap (λ (l : List Done). ops_in pieces ++ l) some.holds ∙ sym (append_assoc (ops_in pieces) (ops_in said) some.more) ∙ ap (λ (l : List Done). l ++ some.more) (sym (ops-append pieces said));
  shown = subst (λ (x : State). Shows disk x) (sym (after_pieces s t pieces some.done is)) some.shown;
  sound = some.sound;
}

-- both come to nothing
no_ops : (pieces : List Piece) (b : Answer) → ops_of (continued pieces None b) ≡ [] → (ops_in pieces ≡ []) × (ops_of b ≡ [])
no_ops pieces b none =
    let none_of = sym (ops-append pieces b.pieces) ∙ none in
    (first_none (ops_in pieces) (ops_in b.pieces) none_of, second_none (ops_in pieces) (ops_in b.pieces) none_of)

-- where no operation was done the state is that of before
same_state : (held : Holdings) (pieces : List Piece) (x y : World) → y ≡ worlds_after held x (ops_in pieces) → ops_in pieces ≡ [] → y.state ≡ x.state
same_state held pieces x y is none = ap (λ (q : World). q.state) is ∙ ap (λ (l : List Done). (worlds_after held x l).state) none

performs_onto : (held : Holdings) (pieces : List Piece) (b : Answer) (x y : World) {v w z : View} → y ≡ worlds_after held x (ops_in pieces) → IsDone held (unrefused pieces) x v w → KeepsFiles v w → Performs b y.state w z → Performs (continued pieces None b) x.state v z
performs_onto held pieces b x y {w = w} {z = z} is done kept performs = record {
  files = files_on kept performs.files;
  only_tidied = λ idle. let both = no_ops pieces b idle.0 in tidied_on (done.only_tidied (both.0, tt)) (subst (λ (s : State). OnlyTidied s w z) (same_state held pieces x y is both.0) (performs.only_tidied (both.1, idle.1)));
  still = λ idle settled. let both = no_ops pieces b idle.0 in still_on (done.still (both.0, tt) settled) (performs.still (both.1, idle.1) (done.tidied (λ first. settled))) performs.files;
  said = pieces ++ performs.said;
  so_far = printed_second pieces b performs.said done.printed performs.so_far;
  some = λ disk left. some_second pieces b performs.said x.state y.state (ap (λ (w : World). w.state) is ∙ worlds_state held x (ops_in pieces)) (performs.some disk left);
}

-- operations that don't set `config` leave what it says
settings_after : (s : State) (op : Op) (timestamp : ℕ) → sets_config op ≡ false → settings_of (after_op s timestamp op) ≡ settings_of s
settings_after s (Install name origin commit) timestamp not = refl
settings_after s (Update name origin commit) timestamp not = by (row_at s name)
  where
    by : (o : Option RefRow) → settings_of (updated s name origin commit timestamp o) ≡ settings_of s
    by None = refl
    by (Some row) = refl
settings_after s (Uninstall name) timestamp not = refl
settings_after s (SetOverride row) timestamp not = refl
settings_after s (DropOverride name) timestamp not = refl
settings_after s (Rollback name commit) timestamp not = by (row_at s name)
  where
    to : (row : RefRow) (p : Option Previous) → settings_of (back s row p) ≡ settings_of s
    to row None = refl
    to row (Some p) = refl

    by : (o : Option RefRow) → settings_of (rolled_back s o) ≡ settings_of s
    by None = refl
    by (Some row) = to row row.previous
settings_after s (AddPin pin) timestamp not = absurd (cc not)
settings_after s (DropPin pin) timestamp not = absurd (cc not)
settings_after s (AddRemote row) timestamp not = absurd (cc not)
settings_after s (ModifyRemote row) timestamp not = absurd (cc not)
settings_after s (DropRemote name) timestamp not = absurd (cc not)
settings_after s Migrate timestamp not = absurd (cc not)

first_true : (b c : Bool) → (b || c) ≡ true → c ≡ false → b ≡ true
first_true true c is none = refl
first_true false c is none = absurd (let both : false ≡ true = sym none ∙ is in cc both)

settings_kept : (s : State) (ops : List Done) → set_config ops ≡ false → settings_of (after_all s ops) ≡ settings_of s
settings_kept s [] not = refl
settings_kept s (d ∷ ops) not = let none = or_parts (sets_config d.op) (set_config ops) not in settings_kept (state_after s d) ops none.1 ∙ settings_after s d.op d.timestamp none.0

text_same : {s t : State} {v : View} → settings_of t ≡ settings_of s → HasText s v → HasText t v
text_same {v = v} same text = record { id = text.id; name = text.name; row = text.row ∙ ap (λ (x : Settings). Some (record { mode = 420; bytes = config_text x })) (sym same) }

done_onto : (held : Holdings) (pieces : List Piece) (b : Answer) (x y : World) {v w z : View} → y ≡ worlds_after held x (ops_in pieces) → IsDone held (unrefused pieces) x v w → IsDone held b y w z → KeepsFiles v w → KeepsFiles w z → IsDone held (continued pieces None b) x v z
done_onto held pieces b x y {v = v} {w = w} {z = z} is done next before kept = record {
  only_tidied = λ idle. let both = no_ops pieces b idle.0 in tidied_on (done.only_tidied (both.0, tt)) (subst (λ (s : State). OnlyTidied s w z) (same_state held pieces x y is both.0) (next.only_tidied (both.1, idle.1)));
  still = λ idle settled. let both = no_ops pieces b idle.0 in still_on (done.still (both.0, tt) settled) (next.still (both.1, idle.1) (done.tidied (λ first. settled))) kept;
  printed = next.printed ∙ ap (λ (p : List ℕ). p ++ pieces_text b.pieces) done.printed ∙ append_assoc v.printed (pieces_text pieces) (pieces_text b.pieces) ∙ ap (λ (p : List ℕ). v.printed ++ p) (sym (joined-append pieces b.pieces));
  holds = subst (λ (q : World). Holds q z) (worlds_pieces held x y pieces b.pieces is) next.holds;
  text = λ some. subst (λ (q : State). HasText q z) after_both (text_by (set_config (ops_of b)) refl (set_both some));
  config = λ not. let none = none_set not in next.config none.1 ∙ done.config none.0;
  shares = λ unpulled. shared_on (done.shares tt) (next.shares unpulled) kept;
  creates = λ unpulled. created_both held x y (ops_in pieces) (ops_of b) (ops_of (continued pieces None b)) is (ops-append pieces b.pieces) (done.creates tt) (next.creates unpulled) before kept;
  tidied = λ before. next.tidied (λ second. done.tidied (λ first. before (ops_none first.0 second.0, second.1)));
}
  where
    ops_none : ops_in pieces ≡ [] → ops_of b ≡ [] → ops_of (continued pieces None b) ≡ []
    ops_none first second = ops-append pieces b.pieces ∙ ap (λ (l : List Done). l ++ ops_of b) first ∙ second

    state : y.state ≡ after_all x.state (ops_in pieces)
    state = ap (λ (q : World). q.state) is ∙ worlds_state held x (ops_in pieces)

    after_both : after_all y.state (ops_of b) ≡ after_all x.state (ops_of (continued pieces None b))
    after_both = sym (after_pieces x.state y.state pieces (ops_of b) state) ∙ ap (after_all x.state) (sym (ops-append pieces b.pieces))

    from : HasText (after_all x.state (ops_in pieces)) w → HasText y.state w
    from text = subst (λ (q : State). HasText q w) (sym state) text

    ops_both : set_config (ops_of (continued pieces None b)) ≡ (set_config (ops_in pieces) || set_config (ops_of b))
    ops_both = ap set_config (ops-append pieces b.pieces) ∙ list_any-append (λ (d : Done). sets_config d.op) (ops_in pieces) (ops_of b)

    set_both : set_config (ops_of (continued pieces None b)) ≡ true → (set_config (ops_in pieces) || set_config (ops_of b)) ≡ true
    set_both some = sym ops_both ∙ some

    none_set : set_config (ops_of (continued pieces None b)) ≡ false → (set_config (ops_in pieces) ≡ false) × (set_config (ops_of b) ≡ false)
    none_set not = or_parts (set_config (ops_in pieces)) (set_config (ops_of b)) (sym ops_both ∙ not)

    -- by the second, or by the first where the second leaves it
    text_by : (c : Bool) → set_config (ops_of b) ≡ c → (set_config (ops_in pieces) || set_config (ops_of b)) ≡ true → HasText (after_all y.state (ops_of b)) z
    text_by true sets some = next.text sets
    text_by false sets some =
        let first : set_config (ops_in pieces) ≡ true = first_true (set_config (ops_in pieces)) (set_config (ops_of b)) some sets in
        text_same (settings_kept y.state (ops_of b) sets) (text_on (next.config sets) kept (from (done.text first)))

performed_onto : (held : Holdings) (pieces : List Piece) (b : Answer) (x y : World) (r : Result State RunEnd) (v w z : View) → y ≡ worlds_after held x (ops_in pieces) → IsDone held (unrefused pieces) x v w → KeepsFiles v w → KeepsFiles w z → Performed held b y r w z → Performed held (continued pieces None b) x r v z
performed_onto held pieces b x y (Ok t) v w z is done before kept next = (
  next.0,
  next.1 ∙ sym (after_pieces x.state y.state pieces (ops_of b) (ap (λ (q : World). q.state) is ∙ worlds_state held x (ops_in pieces))) ∙ ap (after_all x.state) (sym (ops-append pieces b.pieces)),
  done_onto held pieces b x y is done next.2 before kept,
)
performed_onto held pieces b x y (Err (Refused refusal)) v w z is done before kept next = (next.0, done_onto held pieces b x y is done next.1 before kept)
performed_onto held pieces b x y (Err Fault) v w z is done before kept next = tt
performed_onto held pieces b x y (Err RemoteFault) v w z is done before kept next = record {
  said = pieces ++ next.said;
  so_far = printed_second pieces b next.said done.printed next.so_far;
  opens = subst (λ (q : State). Opens q z) (sym (after_pieces x.state y.state pieces (ops_in next.said) (ap (λ (q : World). q.state) is ∙ worlds_state held x (ops_in pieces))) ∙ ap (after_all x.state) (sym (ops-append pieces next.said))) next.opens;
}
performed_onto held pieces b x y (Err NoMemory) v w z is done before kept next = record {
  said = pieces ++ next.said;
  so_far = printed_second pieces b next.said done.printed next.so_far;
  opens = subst (λ (q : State). Opens q z) (sym (after_pieces x.state y.state pieces (ops_in next.said) (ap (λ (q : World). q.state) is ∙ worlds_state held x (ops_in pieces))) ∙ ap (after_all x.state) (sym (ops-append pieces next.said))) next.opens;
}

-- ---- the first was done, and isn't a refusal

-- it is its pieces alone
then_is : (a b : Answer) → a.refusal ≡ None → continued a.pieces None b ≡ followed a b
then_is a b none = ap (λ (o : Option Refusal). continued a.pieces o b) (sym none)

done_plain : (held : Holdings) (a : Answer) (x : World) {v w : View} → IsDone held a x v w → a.refusal ≡ None → IsDone held (unrefused a.pieces) x v w
done_plain held a x done none = record {
  printed = done.printed;
  only_tidied = λ idle. done.only_tidied (idle.0, subst IsUnpulled (sym none) tt);
  still = λ idle settled. done.still (idle.0, subst IsUnpulled (sym none) tt) settled;
  holds = done.holds;
  tidied = λ before. done.tidied (λ idle. before (idle.0, tt));
  text = done.text;
  config = done.config;
  shares = λ ok. done.shares (subst IsUnpulled (sym none) tt);
  creates = λ ok. done.creates (subst IsUnpulled (sym none) tt);
}

-- the world in which the first leaves the view
pub left_world : (held : Holdings) (a : Answer) (s t : State) (v w : View) → Performed held a (world_at s v) (Ok t) v w → world_at t w ≡ worlds_after held (world_at s v) (ops_of a)
left_world held a s t v w done = world_held t (done.1 ∙ sym (worlds_state held (world_at s v) (ops_of a))) done.2.holds

-- and all is at rest there
pub left_rests : (held : Holdings) (a : Answer) (s t : State) (v w : View) → Settled (shows w) → Performed held a (world_at s v) (Ok t) v w → Rests t w
left_rests held a s t v w settled done = record {
  opens = subst (λ (q : State). Opens q w) (worlds_state held (world_at s v) (ops_of a) ∙ sym done.1) done.2.holds.opens;
  settled = settled;
}

-- ---- one answer after another, over an installation

-- the first answer, and the next over the world that it leaves
abbrev pub Both : (Holdings → World → Answer) → (Holdings → World → Answer) → Holdings → World → Answer
Both f g held x = then_over held x (f held x) (g held)

module _ (held : Holdings) (f g : Holdings → World → Answer) (s : State) where
  pub performs_first : {v w : View} → Performs (f held (world_at s v)) s v w → Performs (Both f g held (world_at s v)) s v w
  performs_first {v = v} performs = performs_followed (f held (world_at s v)) (g held (worlds_after held (world_at s v) (ops_of (f held (world_at s v))))) s performs

  pub failed_first : (e : RunEnd) (v w : View) → Performed held (f held (world_at s v)) (world_at s v) (Err e) v w → Performed held (Both f g held (world_at s v)) (world_at s v) (Err e) v w
  failed_first e v w failed = failed_followed held (f held (world_at s v)) (g held (worlds_after held (world_at s v) (ops_of (f held (world_at s v))))) (world_at s v) e v w failed

  pub acted_first : (e : RunEnd) (v w : View) (before after : Bool) → Performed held (f held (world_at s v)) (world_at s v) (Err e) v w → Acted (f held (world_at s v)) (Err e) before after → Acted (Both f g held (world_at s v)) (Err e) before after
  acted_first e v w before after failed acted = acted_followed held (f held (world_at s v)) (g held (worlds_after held (world_at s v) (ops_of (f held (world_at s v))))) (world_at s v) e v w before after failed acted

  pub performs_second : (t : State) (v w z : View) → Performed held (f held (world_at s v)) (world_at s v) (Ok t) v w → KeepsFiles v w → Performs (g held (world_at t w)) t w z → Performs (Both f g held (world_at s v)) s v z
  performs_second t v w z d files performs =
      let a = f held (world_at s v) in
      let y = left_world held a s t v w d in
      subst (λ (q : World). Performs (followed a (g held q)) s v z) y
      (subst (λ (q : Answer). Performs q s v z) (then_is a (g held (world_at t w)) d.0)
      (performs_onto held a.pieces (g held (world_at t w)) (world_at s v) (world_at t w) y (done_plain held a (world_at s v) d.2 d.0) files performs))

  pub performed_second : (t : State) (r : Result State RunEnd) (v w z : View) → Performed held (f held (world_at s v)) (world_at s v) (Ok t) v w → KeepsFiles v w → KeepsFiles w z → Performed held (g held (world_at t w)) (world_at t w) r w z → Performed held (Both f g held (world_at s v)) (world_at s v) r v z
  performed_second t r v w z d before files next =
      let a = f held (world_at s v) in
      let y = left_world held a s t v w d in
      subst (λ (q : World). Performed held (followed a (g held q)) (world_at s v) r v z) y
      (subst (λ (q : Answer). Performed held q (world_at s v) r v z) (then_is a (g held (world_at t w)) d.0)
      (performed_onto held a.pieces (g held (world_at t w)) (world_at s v) (world_at t w) r v w z y (done_plain held a (world_at s v) d.2 d.0) before files next))

  pub acted_second : (t : State) (r : Result State RunEnd) (v w : View) (before now after : Bool) → Performed held (f held (world_at s v)) (world_at s v) (Ok t) v w → Acted (f held (world_at s v)) (Ok t) before now → Acted (g held (world_at t w)) r now after → Acted (Both f g held (world_at s v)) r before after
  acted_second t r v w before now after d first next =
      let a = f held (world_at s v) in
      let y = left_world held a s t v w d in
      subst (λ (q : World). Acted (followed a (g held q)) r before after) y
      (subst (λ (q : Answer). Acted q r before after) (then_is a (g held (world_at t w)) d.0)
      (acted_onto a.pieces (g held (world_at t w)) r before now after first next))

-- ---- each of a list, in turn

module _ {A : Type 0} (item : A → Holdings → World → Answer) (held : Holdings) where
  -- So many of the list are done: these pieces were said, and the others lead on from the state t.
  pub record StageOver (all left : List A) (s t : State) (before now : Bool) (v w : View) : Type 0 where
    pub pieces : List Piece
    pub same : each_over item all held (world_at s v) ≡ continued pieces None (each_over item left held (world_at t w))
    pub state : t ≡ after_all s (ops_in pieces)
    pub files : KeepsFiles v w
    pub settled : Settled (shows v)
    pub done : IsDone held (unrefused pieces) (world_at s v) v w
    pub acted : now ≡ has_acted before (ops_in pieces)

  -- none is done
  pub first_stage : (all : List A) (s : State) {before : Bool} {v : View} → Rests s v → StageOver all all s s before before v v
  first_stage all s {v = v} rests = record {
    pieces = [];
    same = refl;
    state = refl;
    files = files_stay;
    settled = rests.settled;
    done = none_done held (unrefused []) (world_at s v) v refl (holds_at s v rests.opens) rests.settled;
    acted = refl;
  }

  module _ (all : List A) (a : A) (left : List A) (s t : State) {before now : Bool} {v w : View} (stage : StageOver all (a ∷ left) s t before now v w) where
    -- the world that was reached
    stage_world : world_at t w ≡ worlds_after held (world_at s v) (ops_in stage.pieces)
    stage_world = world_held t (stage.state ∙ sym (worlds_state held (world_at s v) (ops_in stage.pieces))) stage.done.holds

    -- the answer of the next, and of those after it
    abbrev next_answer : Answer
    next_answer = item a held (world_at t w)

    abbrev later_answer : Answer
    later_answer = each_over item left held (worlds_after held (world_at t w) (ops_of next_answer))

    pieces_both : (xs ys : List Piece) (b : Answer) → continued xs None (continued ys None b) ≡ continued (xs ++ ys) None b
    pieces_both xs ys b = ap (λ (l : List Piece). record { pieces = l; refusal = b.refusal }) (sym (append_assoc xs ys b.pieces))

    -- one more
    pub next_stage : (t' : State) {after : Bool} {z : View} → KeepsFiles w z → Performed held next_answer (world_at t w) (Ok t') w z → Acted next_answer (Ok t') now after → StageOver all left s t' before after v z
    next_stage t' {after = after} {z = z} kept done acted = record {
      pieces = stage.pieces ++ next_answer.pieces;
      same = stage.same ∙ ap (continued stage.pieces None) (sym (then_is next_answer later_answer done.0)) ∙ pieces_both stage.pieces next_answer.pieces later_answer ∙ ap (λ (q : World). continued (stage.pieces ++ next_answer.pieces) None (each_over item left held q)) (sym (left_world held next_answer t t' w z done));
      state = done.1 ∙ sym (after_pieces s t stage.pieces (ops_of next_answer) stage.state) ∙ ap (after_all s) (sym (ops-append stage.pieces next_answer.pieces));
      files = files_on stage.files kept;
      settled = stage.settled;
      done = done_onto held stage.pieces (unrefused next_answer.pieces) (world_at s v) (world_at t w) stage_world stage.done (done_plain held next_answer (world_at t w) done.2 done.0) stage.files kept;
      acted = acted_onto stage.pieces next_answer (Ok t') before now after stage.acted acted;
    }

    -- at every moment of the next
    pub stage_performs : {z : View} → Performs next_answer t w z → Performs (each_over item all held (world_at s v)) s v z
    stage_performs {z = z} performs =
        subst (λ (q : Answer). Performs q s v z) (sym stage.same)
        (performs_onto held stage.pieces (each_over item (a ∷ left) held (world_at t w)) (world_at s v) (world_at t w) stage_world stage.done stage.files (performs_followed next_answer later_answer t performs))

    -- where the next fails
    pub stage_failed : (e : RunEnd) (z : View) → KeepsFiles w z → Performed held next_answer (world_at t w) (Err e) w z → Performed held (each_over item all held (world_at s v)) (world_at s v) (Err e) v z
    stage_failed e z kept failed =
        subst (λ (q : Answer). Performed held q (world_at s v) (Err e) v z) (sym stage.same)
        (performed_onto held stage.pieces (each_over item (a ∷ left) held (world_at t w)) (world_at s v) (world_at t w) (Err e) v w z stage_world stage.done stage.files kept
        (failed_followed held next_answer later_answer (world_at t w) e w z failed))

    pub stage_acted : (e : RunEnd) (after : Bool) (z : View) → Performed held next_answer (world_at t w) (Err e) w z → Acted next_answer (Err e) now after → Acted (each_over item all held (world_at s v)) (Err e) before after
    stage_acted e after z failed acted =
        subst (λ (q : Answer). Acted q (Err e) before after) (sym stage.same)
        (acted_onto stage.pieces (each_over item (a ∷ left) held (world_at t w)) (Err e) before now after stage.acted
        (acted_followed held next_answer later_answer (world_at t w) e w z now after failed acted))

  -- what was reached is at rest
  pub stage_rests : (all left : List A) (s t : State) {before now : Bool} {v w : View} → StageOver all left s t before now v w → Rests t w
  stage_rests all left s t {v = v} {w = w} stage = record {
    opens = subst (λ (q : State). Opens q w) (worlds_state held (world_at s v) (ops_in stage.pieces) ∙ sym stage.state) stage.done.holds.opens;
    settled = stage.done.tidied (λ idle. stage.settled);
  }

  -- all are done
  pub last_stage : (all : List A) (s t : State) {before now : Bool} {v w : View} → StageOver all [] s t before now v w → Performed held (each_over item all held (world_at s v)) (world_at s v) (Ok t) v w
  last_stage all s t {v = v} {w = w} stage =
      let x = world_held t (stage.state ∙ sym (worlds_state held (world_at s v) (ops_in stage.pieces))) stage.done.holds in
      let opens = subst (λ (q : State). Opens q w) (worlds_state held (world_at s v) (ops_in stage.pieces) ∙ sym stage.state) stage.done.holds.opens in
      subst (λ (q : Answer). Performed held q (world_at s v) (Ok t) v w) (sym stage.same)
      (performed_onto held stage.pieces nothing (world_at s v) (world_at t w) (Ok t) v w w x stage.done stage.files files_stay
      (refl, refl, none_done held nothing (world_at t w) w refl (holds_at t w opens) (stage.done.tidied (λ idle. stage.settled))))

  pub last_acted : (all : List A) (s t : State) {before now : Bool} {v w : View} → StageOver all [] s t before now v w → Acted (each_over item all held (world_at s v)) (Ok t) before now
  last_acted all s t {before = before} {now = now} {v = v} {w = w} stage =
      subst (λ (q : Answer). Acted q (Ok t) before now) (sym stage.same) (acted_onto stage.pieces nothing (Ok t) before now now stage.acted refl)
