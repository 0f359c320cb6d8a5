-- Objects that were made in a store, step by step.
use Rattle.std.proofs.Common.{◌≡◌, ◌≢◌, ◌⊎◌, inl, inr, ℕ, List, Option, Some, None, refl, sym, ◌∙◌, Contains}
use Rattle.std.proofs.lemmas.List.Elements.{Contains-push}
use Rattle.fp_host.specs.Paths.{Elements, Slot, file, link, IsAbove}
use Rattle.fp_host.specs.View.{View, Inode}
use Rattle.fp_host.specs.Calls.{creates, done}
use Rattle.fp_host.specs.Outcome.{Spot}
use Rattle.fp_host.specs.Frame.{Keeps}
use Rattle.fp_small.specs.Files.{KeepsFiles}
use Rattle.fp_base.specs.declared.object.ObjKind.{ObjKind}
use Rattle.ost_model.specs.Objects.{object_path}
use Rattle.ost_model.specs.Stores.{objects_folder}
use Rattle.ost_store.specs.Created.{WasMade, WasPutSince, Creates, NoObject}

pub creates_refl : {root : Elements} {v : View} → Creates root NoObject v v
creates_refl = record {
  each = λ o none. absurd none;
  only = λ q id below had. inl had;
  one = λ o none. absurd none;
}

-- where nothing is put below the store's objects
pub creates_none : {root : Elements} (W : Elements → Slot → Type 0) {u w : View} → ((x : Elements × Slot) → Contains w.stood x → Contains u.stood x ⊎ W x.0 x.1) → ((q : Elements) (id : ℕ) → IsAbove (objects_folder root) q → W q (file id) → ⊥) → Creates root NoObject u w
creates_none W puts off = record {
  each = λ o none. absurd none;
  only = λ q id below had. elim (puts (q, file id) had) [ inl before ↦ inl before | inr put ↦ absurd (off q id below put) ];
  one = λ o none. absurd none;
}

-- so it is within a frame
pub creates_frame : {root : Elements} {G : Elements → Spot → Type 0} (W : Elements → Slot → Type 0) {A : Elements → Type 0} {u w : View} → Keeps G W A u w → ((q : Elements) (id : ℕ) → IsAbove (objects_folder root) q → W q (file id) → ⊥) → Creates root NoObject u w
creates_frame W keeps off = creates_none W keeps.puts off

-- the same objects
pub creates_to : {root : Elements} {L M : List ℕ × ObjKind → Type 0} {u w : View} → ((o : List ℕ × ObjKind) → L o → M o) → ((o : List ℕ × ObjKind) → M o → L o) → Creates root L u w → Creates root M u w
creates_to on back first = record {
  each = λ o is. first.each o (back o is);
  only = λ q id below had. elim (first.only q id below had) [ inl before ↦ inl before | inr new ↦ inr (new.0, (new.1.0, on new.1.0 new.1.1, new.1.2)) ];
  one = λ o is. first.one o (back o is);
}

-- a file that is new to the second view was new to the first
new_before : {u v : View} → KeepsFiles u v → (id : ℕ) (row : Option Inode) → u.files id ≡ row → v.files id ≡ None → u.files id ≡ None
new_before keeps id None is none = is
new_before keeps id (Some f) is none = absurd (cc (sym (keeps.rows id f is) ∙ none))

-- each object's name is below the store's objects
pub object_below : (root : Elements) (o : List ℕ × ObjKind)
    → IsAbove (objects_folder root) (object_path root o.0 o.1)
object_below root o = inr (inl refl)

-- ---- one step after another, where one of the two makes no object

-- first the objects, and then none
module _ {root : Elements} {L : List ℕ × ObjKind → Type 0} {u v w : View}
    (first : Creates root L u v) (second : Creates root NoObject v w)
    (before : KeepsFiles u v) (after : KeepsFiles v w) where
  made_first : (o : List ℕ × ObjKind) → WasMade root o u v → WasMade root o u w
  made_first o (inl made) = inl (record {
    id = made.id;
    mode = made.mode;
    bytes = made.bytes;
    new = made.new;
    put = after.stood (object_path root o.0 o.1, file made.id) made.put;
    row = after.rows made.id (record { mode = made.mode; bytes = made.bytes }) made.row;
    named = made.named;
    bits = made.bits;
  })
  made_first o (inr linked) =
      inr (linked.0, after.stood (object_path root o.0 o.1, link linked.0) linked.1)

  -- what was put below the store's objects was put by the first
  put_first : (q : Elements) (id : ℕ) → IsAbove (objects_folder root) q
      → WasPutSince q id u w → WasPutSince q id u v
  put_first q id below was = record {
    since = was.since;
    put = elim (second.only q id below was.put) [ inl had ↦ had | inr new ↦ absurd new.1.1 ];
  }

  pub creates_on : Creates root L u w
  creates_on = record {
    each = λ o is. made_first o (first.each o is);
    only = λ q id below had. elim (second.only q id below had) [
      | inl in_first ↦ first.only q id below in_first
      | inr new ↦ absurd new.1.1
    ];
    one = λ o is i j a b.
        let back = put_first (object_path root o.0 o.1) in
        first.one o is i j (back i (object_below root o) a) (back j (object_below root o) b);
  }

-- first none, and then the objects
module _ {root : Elements} {L : List ℕ × ObjKind → Type 0} {u v w : View}
    (first : Creates root NoObject u v) (second : Creates root L v w)
    (before : KeepsFiles u v) (after : KeepsFiles v w) where
  made_second : (o : List ℕ × ObjKind) → WasMade root o v w → WasMade root o u w
  made_second o (inl made) = inl (record {
    id = made.id;
    mode = made.mode;
    bytes = made.bytes;
    new = new_before before made.id (u.files made.id) refl made.new;
    put = made.put;
    row = made.row;
    named = made.named;
    bits = made.bits;
  })
  made_second o (inr linked) = inr linked

  -- what stood below the store's objects then stood there before
  stood_before : (q : Elements) (id : ℕ) → IsAbove (objects_folder root) q
      → Contains v.stood (q, file id) → Contains u.stood (q, file id)
  stood_before q id below had =
      elim (first.only q id below had) [ inl old ↦ old | inr new ↦ absurd new.1.1 ]

  put_second : (q : Elements) (id : ℕ) → IsAbove (objects_folder root) q
      → WasPutSince q id u w → WasPutSince q id v w
  put_second q id below was = record {
    since = λ had. was.since (stood_before q id below had);
    put = was.put;
  }

  pub creates_off : Creates root L u w
  creates_off = record {
    each = λ o is. made_second o (second.each o is);
    only = λ q id below had. elim (second.only q id below had) [
      | inl in_first ↦ inl (stood_before q id below in_first)
      | inr new ↦ inr (new_before before id (u.files id) refl new.0, new.1)
    ];
    one = λ o is i j a b.
        let on = put_second (object_path root o.0 o.1) in
        second.one o is i j (on i (object_below root o) a) (on j (object_below root o) b);
  }

-- ---- what is made, and what isn't

-- a file that is created is put at its name
pub created_is_put : (q : Elements) (mode id : ℕ) (v : View)
    → (Contains v.stood (q, file id) → ⊥) → WasPutSince q id v (done (creates q mode id) v)
created_is_put q mode id v off = record {
  since = off;
  put = Contains-push v.stood (q, file id);
}

-- a file that was put below the store's objects is an object that was made
pub put_is_some : (root q : Elements) (id : ℕ) (u w : View) → WasPutSince q id u w
    → IsAbove (objects_folder root) q → Creates root NoObject u w → ⊥
put_is_some root q id u w was below made =
    elim (made.only q id below was.put) [ inl had ↦ was.since had | inr new ↦ new.1.1 ]

-- two files that were put at an object's name are more than one
pub not_two : (root : Elements) (o : List ℕ × ObjKind) (i j : ℕ) (u w : View)
    → WasPutSince (object_path root o.0 o.1) i u w → WasPutSince (object_path root o.0 o.1) j u w
    → i ≢ j → Creates root (λ x. x ≡ o) u w → ⊥
not_two root o i j u w a b two made = two (made.one o refl i j a b)

-- where nothing happens no object is made, unless a link was put at its name before
pub none_made : (root : Elements) (o : List ℕ × ObjKind) (v : View)
    → ((text : List ℕ) → Contains v.stood (object_path root o.0 o.1, link text) → ⊥)
    → Creates root (λ x. x ≡ o) v v → ⊥
none_made root o v no_link made = elim (made.each o refl) [
  | inl new ↦ cc (sym new.new ∙ new.row)
  | inr linked ↦ no_link linked.0 linked.1
]
