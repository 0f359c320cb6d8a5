-- One lemma for each kind of call, for any frame; each takes the call's clause first.
use Rattle.std.proofs.Common.{◌≡◌, inl, inr, ℕ, List, [], Option, Some, Result, refl, sym, ◌∙◌, ap, subst}
use Rattle.fp_host.specs.Paths.{Elements, Slot, absent, dir, file, link, at}
use Rattle.fp_host.specs.View.{View, Inode, IsTree}
use Rattle.fp_host.specs.Calls.{Change, makes_dir, appends, links, makes_link, renames, unlinks, removes_dir, syncs, Step, Creates, Called, IsSilent}
use Rattle.fp_host.specs.Outcome.{Spot, folder, gone, holds, points, GivesOf, Gives, Disk, Leaves, spot_of}
use Rattle.fp_host.specs.Moments.{Moments, Goes, Makes}
use Rattle.fp_host.specs.Reads.{StatOf, ListOf, ReadOf, LinkOf}
use Rattle.fp_host.specs.Frame.{Keeps, Frame, AtEnd, Observes}
use Rattle.fp_host.specs.declared.host.HostError.{HostError}
use Rattle.fp_host.specs.declared.host.Stat.{Stat}
use Rattle.fp_host.proofs.Follow.{follows_refl, follows_on, follows_to, follows_call, called, called_create}
use Rattle.fp_host.proofs.Keep.{printed_kept, stood_kept}
use Rattle.fp_host.proofs.Filed.{Fills, Passes, PutsOf, files_kept, rows_kept, empty_kept, held_call, puts_call, put_call}
use Rattle.fp_host.proofs.Goes.{goes_on, stays, makes_goes}
use Rattle.fp_host.proofs.Settled.{at_tree}
use Rattle.fp_host.proofs.Slots.{row_cases}

-- the present view of a host that tells is a tree
abbrev pub IsTold : Option Moments → Type 0
IsTold a = (m : Moments) → a ≡ Some m → IsTree m.now

pub keeps_refl : {G : Elements → Spot → Type 0} {W : Elements → Slot → Type 0} {A : Elements → Type 0} {v : View} → Keeps G W A v v
keeps_refl = record {
  follows = follows_refl;
  names = λ q. inl refl;
  files = λ id f some off. some;
  rows = λ id none. none;
  held = λ q id at is. inr (q, at, is);
  printed = refl;
  stood = λ x had. had;
  puts = λ x had. inl had;
  empty = λ none id f was some. absurd (cc (was, some));
}

pub keeps_same : {G : Elements → Spot → Type 0} {W : Elements → Slot → Type 0} {A : Elements → Type 0} {v w : View} → w ≡ v → Keeps G W A v w
keeps_same {G = G} {W = W} {A = A} {v = v} same = subst (Keeps G W A v) (sym same) keeps_refl

pub keeps_on : {G : Elements → Spot → Type 0} {W : Elements → Slot → Type 0} {A : Elements → Type 0} {u v w : View} → Keeps G W A u v → Keeps G W A v w → Keeps G W A u w
keeps_on {W = W} {v = v} first second = record {
  follows = follows_on first.follows second.follows;
  names = λ q. elim (second.names q) [
    | inl same ↦ elim (first.names q) [ inl s ↦ inl (same ∙ s) | inr put ↦ inr (subst (W q) (sym same) put) ]
    | inr put ↦ inr put
  ];
  files = λ id f some off. second.files id f (first.files id f some off) (λ q at is. elim (first.held q id at is) [ inl none ↦ absurd (cc (some, none)) | inr had ↦ off had.0 had.1 had.2 ]);
  rows = λ id none. first.rows id (second.rows id none);
  held = λ q id at is. elim (second.held q id at is) [ inl none ↦ inl (first.rows id none) | inr had ↦ first.held had.0 id had.1 had.2 ];
  printed = second.printed ∙ first.printed;
  stood = λ x had. second.stood x (first.stood x had);
  puts = λ x had. elim (second.puts x had) [ inl before ↦ first.puts x before | inr put ↦ inr put ];
  empty = λ none id f was some. elim (row_cases (v.files id)) [
    | inl new ↦ second.empty none id f new some
    | inr old ↦
        let same : Some old.0 ≡ Some f = sym (second.files id old.0 old.1 (λ q at is. none q at)) ∙ some in
        let is : old.0 ≡ f = cc same in
        subst (λ (g : Inode). g.bytes ≡ []) is (first.empty none id old.0 was old.1)
  ];
}

-- A frame within a wider one. A file that it may put at a name of the wider A is one of its own A.
pub keeps_to : {G H : Elements → Spot → Type 0} {W V : Elements → Slot → Type 0} {A B : Elements → Type 0} {v w : View} → ((q : Elements) (spot : Spot) → H q spot → G q spot) → ((q : Elements) (e : Slot) → V q e → W q e)
    → ((q : Elements) → B q → A q) → ((q : Elements) (id : ℕ) → A q → V q (file id) → B q) → Keeps H V B v w → Keeps G W A v w
keeps_to {V = V} given put fills back k = record {
  follows = follows_to given k.follows;
  names = λ q. elim (k.names q) [ inl same ↦ inl same | inr h ↦ inr (put q _ h) ];
  files = λ id f some off. k.files id f some (λ q at is. off q (fills q at) is);
  rows = k.rows;
  held = λ q id at is. elim (k.names q) [
    | inl same ↦ inr (q, at, sym same ∙ is)
    | inr h ↦ elim (k.held q id (back q id at (subst (V q) is h)) is) [ inl none ↦ inl none | inr had ↦ inr (had.0, fills had.0 had.1, had.2) ]
  ];
  printed = k.printed;
  stood = k.stood;
  puts = λ x had. elim (k.puts x had) [ inl before ↦ inl before | inr h ↦ inr (put x.0 x.1 h) ];
  empty = λ none. k.empty (λ q at. none q (fills q at));
}

at_one : (G : Elements → Spot → Type 0) (p : Elements) (n : Spot) → G p n → (q : Elements) (spot : Spot) → (q ≡ p) × (spot ≡ n) → G q spot
at_one G p n given q spot h = subst (λ (x : Elements). G x spot) (sym h.0) (subst (G p) (sym h.1) given)

one : (W : Elements → Slot → Type 0) (p : Elements) (e : Slot) → W p e → (q : Elements) (f : Slot) → (q ≡ p) × (f ≡ e) → W q f
one W p e put q f h = subst (λ (x : Elements). W x f) (sym h.0) (subst (W p) (sym h.1) put)

-- a call fills only a file of A
abbrev pub FillsIn : (Elements → Type 0) → Change → Type 0
FillsIn A change = (v : View) (id : ℕ) → Fills change v id → (q : Elements) × A q × (v.names q ≡ file id)

fills_none : (A : Elements → Type 0) (x : View) (i : ℕ) → ⊥ → (q : Elements) × A q × (x.names q ≡ file i)
fills_none A x i h = absurd h

-- what a name gives is what some stop leaves there
pub given_left : (v : View) (from to q : Elements) (spot : Spot) → IsTree v → Gives v to (v.names from) q spot → (disk : Disk) × Leaves v disk × (disk from ≡ spot)
given_left v from to q spot tree g = (
  (λ p. spot_of g.1.0 (at v.names p)),
  record { names = v.names; files = g.1.0; may_be = λ p. inl refl; rows = g.1.1; seen = λ p. refl },
  ap (spot_of g.1.0) (at_tree v tree from) ∙ sym g.1.2,
)

-- a call within a frame that knows the view before it
module _ {G : Elements → Spot → Type 0} {W : Elements → Slot → Type 0} {A : Elements → Type 0} where
  pub keeps_call : {change : Change} {v w : View} → IsTree v → ((q : Elements) (spot : Spot) → GivesOf change v q spot → G q spot) → ((q : Elements) (e : Slot) → PutsOf change v q e → W q e)
      → FillsIn A change → Passes A change → IsSilent change → Called change v w → Keeps G W A v w
  keeps_call {v = v} tree given put fills passes silent call = record {
    follows = follows_to given (follows_call tree call);
    names = λ q. elim (puts_call call q) [ inl same ↦ inl same | inr h ↦ inr (put q _ h) ];
    files = λ id f some off. files_kept call id f some (λ h. let q = fills v id h in off q.0 q.1 q.2);
    rows = λ id none. rows_kept call id none;
    held = λ q id at is. held_call A call passes q id at is;
    printed = printed_kept call silent;
    stood = stood_kept call;
    puts = λ x had. elim (put_call call x had) [ inl before ↦ inl before | inr h ↦ inr (put x.0 x.1 h) ];
    empty = λ none id f was some. empty_kept call id f was some (λ h. let q = fills v id h in none q.0 q.1);
  }

  keeps_create : {p : Elements} {mode : ℕ} {r : Result (Unit {0}) HostError} {v w : View} → IsTree v → ((id : ℕ) (bytes : List ℕ) → G p (holds id mode bytes)) → ((id : ℕ) → W p (file id)) → Creates p mode r v w → Keeps G W A v w
  keeps_create {p = p} {mode = mode} {v = v} tree given put step = elim (called_create step) [
    | inl same ↦ keeps_same same
    | inr call ↦ keeps_call tree (λ q spot h. subst (λ (x : Elements). G x spot) (sym h.0) (subst (G p) (sym h.1.1) (given call.0 h.1.0))) (one W p (file call.0) (put call.0)) (λ x i h. absurd h) tt tt call.1
  ]

  pub frame_start : {a : Option Moments} → IsTold a → Frame G W A a a
  frame_start told = record { goes = stays told (λ u. keeps_refl) (λ u t. keeps_refl) }

  -- any call, where what is known of the view before it makes it fit
  pub frame_known : {a b c : Option Moments} {S Q : View → View → Type 0} → Makes S b c → Frame G W A a b → AtEnd Q a b → IsTold b → ((u v w : View) → IsTree v → Q u v → S v w → Keeps G W A v w) → Frame G W A a c
  frame_known {Q = Q} call so_far known told fits = record {
    goes = goes_on told (with_known so_far.goes known) (makes_goes call) (λ u v w t r q s. keeps_on r (fits u v w t q.1 s)) (λ u v w t r q s e. keeps_on r (fits u v w t q.1 e));
  }
    where
      with_known : {a b : Option Moments} {R T Q : View → View → Type 0} → Goes a b R T → AtEnd Q a b → Goes a b R (λ u w. T u w × Q u w)
      with_known {Q = Q} first second = record {
        untold = first.untold;
        told = λ m e.
            let one = first.told m e in
            let two = second.goes.told m e in
            let same : two.0 ≡ one.0 = cc (one.1, two.1) in
            (one.0, one.1, one.2, (one.3, subst (λ (n : Moments). Q m.now n.now) same two.3));
      }

  frame_call : {a b c : Option Moments} {S : View → View → Type 0} → Makes S b c → Frame G W A a b → IsTold b → ((v w : View) → IsTree v → S v w → Keeps G W A v w) → Frame G W A a c
  frame_call call so_far told fits = record { goes = goes_on told so_far.goes (makes_goes call) (λ u v w t r q s. keeps_on r (fits v w t s)) (λ u v w t r q s e. keeps_on r (fits v w t e)) }

  pub frame_create : {a b c : Option Moments} {p : Elements} {mode : ℕ} {r : Result (Unit {0}) HostError} → Makes (Creates p mode r) b c → Frame G W A a b → IsTold b → ((id : ℕ) (bytes : List ℕ) → G p (holds id mode bytes)) → ((id : ℕ) → W p (file id)) → Frame G W A a c
  frame_create call so_far told given put = frame_call call so_far told (λ v w t s. keeps_create t given put s)

  pub frame_make_dir : {a b c : Option Moments} {p : Elements} {r : Result (Unit {0}) HostError} → Makes (Step (makes_dir p) r) b c → Frame G W A a b → IsTold b → G p folder → W p dir → Frame G W A a c
  frame_make_dir {p = p} call so_far told given put = frame_call call so_far told (λ v w t s. keeps_call t (at_one G p folder given) (one W p dir put) (fills_none A) tt tt (called s))

  pub frame_symlink : {a b c : Option Moments} {text : List ℕ} {p : Elements} {r : Result (Unit {0}) HostError} → Makes (Step (makes_link text p) r) b c → Frame G W A a b → IsTold b → G p (points text) → W p (link text) → Frame G W A a c
  frame_symlink {text = text} {p = p} call so_far told given put = frame_call call so_far told (λ v w t s. keeps_call t (at_one G p (points text) given) (one W p (link text) put) (fills_none A) tt tt (called s))

  pub frame_unlink : {a b c : Option Moments} {p : Elements} {r : Result (Unit {0}) HostError} → Makes (Step (unlinks p) r) b c → Frame G W A a b → IsTold b → G p gone → W p absent → Frame G W A a c
  frame_unlink {p = p} call so_far told given put = frame_call call so_far told (λ v w t s. keeps_call t (at_one G p gone given) (one W p absent put) (fills_none A) tt tt (called s))

  pub frame_remove_dir : {a b c : Option Moments} {p : Elements} {r : Result (Unit {0}) HostError} → Makes (Step (removes_dir p) r) b c → Frame G W A a b → IsTold b → G p gone → W p absent → Frame G W A a c
  frame_remove_dir {p = p} call so_far told given put = frame_call call so_far told (λ v w t s. keeps_call t (at_one G p gone given) (one W p absent put) (fills_none A) tt tt (called s))

  -- the file that gets bytes is one of A
  pub frame_append : {a b c : Option Moments} {p : Elements} {bytes : List ℕ} {r : Result (Unit {0}) HostError} → Makes (Step (appends p bytes) r) b c → Frame G W A a b → IsTold b → A p → Frame G W A a c
  frame_append {p = p} call so_far told fills = frame_call call so_far told (λ v w t s. keeps_call t (λ q spot h. absurd h) (λ q e h. absurd h) (λ x id h. (p, fills, h)) tt tt (called s))

  pub frame_sync : {a b c : Option Moments} {r : Result (Unit {0}) HostError} → Makes (Step syncs r) b c → Frame G W A a b → IsTold b → Frame G W A a c
  frame_sync call so_far told = frame_call call so_far told (λ v w t s. keeps_call t (λ q spot h. absurd h) (λ q e h. absurd h) (fills_none A) tt tt (called s))

  -- What stands at the old name, whatever stop comes, may come to the new one; and what the old name holds may too. The new
  -- name is none of A, or the old one is.
  pub frame_move : {a b c : Option Moments} {Q : View → View → Type 0} {from to : Elements} {r : Result (Unit {0}) HostError} → Makes (Step (renames from to) r) b c → Frame G W A a b → AtEnd Q a b → IsTold b
      → ((u v : View) → Q u v → (disk : Disk) → Leaves v disk → G to (disk from)) → ((u v : View) → Q u v → W to (v.names from)) → G from gone → W from absent → (A to → A from) → Frame G W A a c
  frame_move {Q = Q} {from = from} {to = to} call so_far known told given put given_gone put_absent passes = frame_known call so_far known told (λ u v w t q s.
      keeps_call t
      (λ x spot h. elim h [
        | inl g ↦ let l = given_left v from to x spot t g in subst (λ (y : Elements). G y spot) (sym g.0) (subst (G to) l.2 (given u v q l.0 l.1))
        | inr g ↦ at_one G from gone given_gone x spot g
      ])
      (λ x e h. elim h [ inl g ↦ one W to (v.names from) (put u v q) x e g | inr g ↦ one W from absent put_absent x e g ]) (fills_none A) passes tt (called s))

  -- and to a second name
  pub frame_link : {a b c : Option Moments} {Q : View → View → Type 0} {from to : Elements} {r : Result (Unit {0}) HostError} → Makes (Step (links from to) r) b c → Frame G W A a b → AtEnd Q a b → IsTold b
      → ((u v : View) → Q u v → (disk : Disk) → Leaves v disk → G to (disk from)) → ((u v : View) → Q u v → W to (v.names from)) → (A to → A from) → Frame G W A a c
  frame_link {Q = Q} {from = from} {to = to} call so_far known told given put passes = frame_known call so_far known told (λ u v w t q s.
      keeps_call t
      (λ x spot h. let l = given_left v from to x spot t h in subst (λ (y : Elements). G y spot) (sym h.0) (subst (G to) l.2 (given u v q l.0 l.1)))
      (λ x e h. one W to (v.names from) (put u v q) x e h) (fills_none A) passes tt (called s))

  pub frame_stat : {a b c : Option Moments} {p : Elements} {r : Result Stat HostError} → Makes (StatOf p r) b c → Frame G W A a b → IsTold b → Frame G W A a c
  frame_stat call so_far told = frame_call call so_far told (λ v w t s. keeps_same s.same)

  pub frame_list : {a b c : Option Moments} {p : Elements} {r : Result (List (List ℕ)) HostError} → Makes (ListOf p r) b c → Frame G W A a b → IsTold b → Frame G W A a c
  frame_list call so_far told = frame_call call so_far told (λ v w t s. keeps_same s.same)

  pub frame_read : {a b c : Option Moments} {p : Elements} {at : ℕ} {into : List ℕ} {r : Result ℕ HostError} → Makes (ReadOf p at into r) b c → Frame G W A a b → IsTold b → Frame G W A a c
  frame_read call so_far told = frame_call call so_far told (λ v w t s. keeps_same s.same)

  pub frame_read_link : {a b c : Option Moments} {p : Elements} {r : Result (List ℕ) HostError} → Makes (LinkOf p r) b c → Frame G W A a b → IsTold b → Frame G W A a c
  frame_read_link call so_far told = frame_call call so_far told (λ v w t s. keeps_same s.same)

  -- a function that only looks
  pub frame_looks : {a b c : Option Moments} {T : View → Type 0} → Observes T b c → Frame G W A a b → IsTold b → Frame G W A a c
  frame_looks inner so_far told = record { goes = goes_on told so_far.goes inner.goes (λ u v w t r q s. keeps_on r (keeps_same s)) (λ u v w t r q s e. keeps_on r (keeps_same e.0)) }

  -- a function with a frame within this one
  pub frame_within : {a b c : Option Moments} {H : Elements → Spot → Type 0} {V : Elements → Slot → Type 0} {B : Elements → Type 0} → Frame H V B b c → Frame G W A a b → IsTold b
      → ((q : Elements) (spot : Spot) → H q spot → G q spot) → ((q : Elements) (e : Slot) → V q e → W q e) → ((q : Elements) → B q → A q) → ((q : Elements) (id : ℕ) → A q → V q (file id) → B q) → Frame G W A a c
  frame_within inner so_far told given put fills back = record {
    goes = goes_on told so_far.goes inner.goes (λ u v w t r q s. keeps_on r (keeps_to given put fills back s)) (λ u v w t r q s e. keeps_on r (keeps_to given put fills back e));
  }

pub ruleset frames = (frame_within, frame_looks, frame_create, frame_make_dir, frame_symlink, frame_unlink, frame_remove_dir, frame_append, frame_sync, frame_move, frame_link, frame_stat, frame_list, frame_read, frame_read_link, frame_start)
