-- What speaks against a change of the settings.
use Rattle.std.proofs.Common.{◌≡◌, ◌<◌, ◌≤◌, ◌+◌, ℕ, List, Bool, true, false, nat_le, length, Option, Some, None, option_map, if◌then◌else◌, Contains, IsTrue, ◌↔◌, refl, sym, ◌∙◌, ap, subst, arith}
use Rattle.fp_base.specs.declared.what.What.TheVariants.{Pins, Remotes}
use Rattle.fp_name.specs.Pins.{is_pin}
use Rattle.fp_name.specs.Refs.{Ref}
use Rattle.fp_small.proofs.Ordered.{is_contained, lacks}
use Rattle.fp_small.specs.Config.{name_of, is_row}
use Rattle.fp_small.specs.Order.{has_name}
use Rattle.fp_small.specs.declared.limits.TheConstants.{MOST_PINS, MOST_REMOTES}
use Rattle.fp_small.specs.declared.state.State.{State}
use Rattle.fp_small.specs.declared.state.RefRow.{RefRow}
use Rattle.fp_small.specs.declared.state.RemoteRow.{RemoteRow}
use Rattle.fp_small.specs.declared.op.Op.TheVariants.{AddPin, DropPin, AddRemote, ModifyRemote, DropRemote}
use Rattle.fp_small.specs.declared.refusal.Refusal.{Refusal}
use Rattle.fp_small.specs.declared.refusal.Refusal.TheVariants.{PinExists, NoSuchPin, NoSuchRemote, RemoteInUse, Limit}
use Rattle.fl_meta.specs.Names.{is_among}
use Rattle.fl_change.specs.Ends.{IsPlain}
use Rattle.fl_change.specs.Settings.{add_pin_refusal, drop_pin_refusal, add_remote_refusal, remote_refusal, first_from, in_use_refusal, drop_remote_refusal}

-- ---- from the code's tests to the refusals

full : (most n : ℕ) → most ≤ n → nat_le most n ≡ true
full most n le = grind arith

not_full : (most n : ℕ) → n < most → nat_le most n ≡ false
not_full most n lt = grind arith

pinned : (r : Bool) (pins : List (List ℕ)) (pin : List ℕ) → (IsTrue r ↔ Contains pins pin) → is_among pins pin ≡ r
pinned true pins pin iff = is_contained pins pin (iff.0 refl)
pinned false pins pin iff = lacks pins pin (λ has. let is : false ≡ true = iff.1 has in cc is)

pub pin_exists : (r : Bool) (pins : List (List ℕ)) (pin copy : List ℕ) → (IsTrue r ↔ Contains pins pin) → r ≡ true → copy ≡ pin → add_pin_refusal pins pin ≡ Some (PinExists copy)
pin_exists r pins pin copy iff is same = rw (pinned r pins pin iff, is, same) refl

pub pin_full : (r : Bool) (pins : List (List ℕ)) (pin : List ℕ) → (IsTrue r ↔ Contains pins pin) → r ≡ false → MOST_PINS ≤ length pins → add_pin_refusal pins pin ≡ Some (Limit Pins (MOST_PINS + 1))
pin_full r pins pin iff is le = rw (pinned r pins pin iff, is, full MOST_PINS (length pins) le) refl

pub pin_new : (r : Bool) (pins : List (List ℕ)) (pin : List ℕ) → (IsTrue r ↔ Contains pins pin) → r ≡ false → length pins < MOST_PINS → add_pin_refusal pins pin ≡ None
pin_new r pins pin iff is lt = rw (pinned r pins pin iff, is, not_full MOST_PINS (length pins) lt) refl

pub pin_lacking : (r : Bool) (pins : List (List ℕ)) (pin copy : List ℕ) → (IsTrue r ↔ Contains pins pin) → r ≡ false → copy ≡ pin → drop_pin_refusal pins pin ≡ Some (NoSuchPin copy)
pin_lacking r pins pin copy iff is same = rw (pinned r pins pin iff, is, same) refl

pub pin_there : (r : Bool) (pins : List (List ℕ)) (pin : List ℕ) → (IsTrue r ↔ Contains pins pin) → r ≡ true → drop_pin_refusal pins pin ≡ None
pin_there r pins pin iff is = rw (pinned r pins pin iff, is) refl

pub remote_full : (remotes : List RemoteRow) (name : List ℕ) → has_name name_of remotes name ≡ false → MOST_REMOTES ≤ length remotes → add_remote_refusal remotes name ≡ Some (Limit Remotes (MOST_REMOTES + 1))
remote_full remotes name is le = rw (is, full MOST_REMOTES (length remotes) le) refl

pub remote_new : (remotes : List RemoteRow) (name : List ℕ) → has_name name_of remotes name ≡ false → length remotes < MOST_REMOTES → add_remote_refusal remotes name ≡ None
remote_new remotes name is lt = rw (is, not_full MOST_REMOTES (length remotes) lt) refl

-- ---- what nothing speaks against may be done

pub add_pin_plain : (r : Bool) (s : State) (pin made : List ℕ) → (IsTrue r ↔ Contains s.pins pin) → r ≡ false → length s.pins < MOST_PINS → is_pin pin ≡ true → made ≡ pin → IsPlain s (AddPin made)
add_pin_plain r s pin made iff is few good same = subst (λ (p : List ℕ). IsPlain s (AddPin p)) (sym same) (record {
  layout = refl;
  allows = (good, (λ has. let both : false ≡ true = sym is ∙ iff.1 has in cc both), few);
  short = tt;
  brings_none = λ b. b;
})

pub drop_pin_plain : (r : Bool) (s : State) (pin made : List ℕ) → (IsTrue r ↔ Contains s.pins pin) → r ≡ true → made ≡ pin → IsPlain s (DropPin made)
drop_pin_plain r s pin made iff is same = subst (λ (p : List ℕ). IsPlain s (DropPin p)) (sym same) (record { layout = refl; allows = iff.0 is; short = tt; brings_none = λ b. b })

pub add_remote_plain : (s : State) (row made : RemoteRow) → has_name name_of s.remotes row.name ≡ false → length s.remotes < MOST_REMOTES → is_row row ≡ true → made ≡ row → IsPlain s (AddRemote made)
add_remote_plain s row made is few good same = subst (λ (x : RemoteRow). IsPlain s (AddRemote x)) (sym same) (record { layout = refl; allows = (good, is, few); short = tt; brings_none = λ b. b })

found : (there : Bool) (a : Refusal) → (if there then None else Some a) ≡ None → there ≡ true
found true a is = refl
found false a is = absurd (cc is)

pub modify_remote_plain : (s : State) (row made : RemoteRow) → remote_refusal s.remotes row.name ≡ None → is_row row ≡ true → made ≡ row → IsPlain s (ModifyRemote made)
modify_remote_plain s row made none good same = subst (λ (x : RemoteRow). IsPlain s (ModifyRemote x)) (sym same) (record { layout = refl; allows = (good, found (has_name name_of s.remotes row.name) (NoSuchRemote row.name) none); short = tt; brings_none = λ b. b })

pub drop_remote_plain : (s : State) (name made : List ℕ) → remote_refusal s.remotes name ≡ None → made ≡ name → IsPlain s (DropRemote made)
drop_remote_plain s name made none same = subst (λ (x : List ℕ). IsPlain s (DropRemote x)) (sym same) (record { layout = refl; allows = found (has_name name_of s.remotes name) (NoSuchRemote name) none; short = tt; brings_none = λ b. b })

-- ---- a remote from which refs come

by_name : (there : Bool) (name : List ℕ) (o : Option Ref) → (if there then None else Some (NoSuchRemote name)) ≡ None → (if there then in_use_refusal name o else Some (NoSuchRemote name)) ≡ in_use_refusal name o
by_name true name o is = refl
by_name false name o is = absurd (cc is)

not_named : (there : Bool) (name : List ℕ) (o : Option Ref) (r : Refusal) → (if there then None else Some (NoSuchRemote name)) ≡ Some r → (if there then in_use_refusal name o else Some (NoSuchRemote name)) ≡ Some r
not_named true name o r is = absurd (cc is)
not_named false name o r is = is

pub no_remote_dropped : (s : State) (name : List ℕ) (r : Refusal) → remote_refusal s.remotes name ≡ Some r → drop_remote_refusal s name ≡ Some r
no_remote_dropped s name r is = not_named (has_name name_of s.remotes name) name (first_from name s.refs) r is

pub remote_used : (s : State) (name : List ℕ) (row : RefRow) (found_row : Option RefRow) → remote_refusal s.remotes name ≡ None → first_from name s.refs ≡ option_map (λ r. r.name) found_row → found_row ≡ Some row → drop_remote_refusal s name ≡ Some (RemoteInUse name row.name)
remote_used s name row found_row there first is = by_name (has_name name_of s.remotes name) name (first_from name s.refs) there ∙ ap (in_use_refusal name) (first ∙ ap (λ (o : Option RefRow). option_map (λ r. r.name) o) is)

pub remote_free : (s : State) (name : List ℕ) (found_row : Option RefRow) → remote_refusal s.remotes name ≡ None → first_from name s.refs ≡ option_map (λ r. r.name) found_row → found_row ≡ None → drop_remote_refusal s name ≡ None
remote_free s name found_row there first is = by_name (has_name name_of s.remotes name) name (first_from name s.refs) there ∙ ap (in_use_refusal name) (first ∙ ap (λ (o : Option RefRow). option_map (λ r. r.name) o) is)
