-- What the two files of layout 1 say.
use Rattle.std.proofs.Common.{◌≡◌, ℕ, suc, ◌-◌, ◌<◌, ◌≤◌, true, false, ◌&&◌, ◌==◌, leb, nat_eq, List, [], ◌∷◌, length, get_or, Some, None, Result, Ok, Err, refl, ◌∙◌, ap, subst, inl, inr, arith}
use Rattle.std.specs.List.{list_all}
use Rattle.std.specs.Option.{is_some}
use Rattle.std.specs.Prelude.{IfOk, IsErrOf}
use Rattle.std.specs.Result.{IsErrAnd}
use Rattle.std.proofs.lemmas.Bool.{cases_Bool, and_parts, and_left, and_right, leb-true, le-leb, lt-leb}
use Rattle.fp_host.specs.Reads.{is_ascending}
use Rattle.fp_name.specs.Pins.{is_pin}
use Rattle.fp_keyfile.specs.declared.group.Group.{Group}
use Rattle.fp_keyfile.specs.declared.fault.KeyFault.{KeyFault}
use Rattle.fp_keyfile.specs.declared.fault.KeyError.{KeyError}
use Rattle.fp_keyfile.specs.declared.fault.KeyError.TheVariants as keys
use Rattle.fp_keyfile.specs.KeyFile.{Fails, file_of, is_good}
use Rattle.fp_keyfile.specs.Lines.{lines_of}
use Rattle.fp_keyfile.proofs.Good.{good_parts}
use Rattle.fp_keyfile.proofs.Read.{good_file_of}
use Rattle.fp_small.specs.declared.state.RemoteRow.{RemoteRow}
use Rattle.fp_small.specs.declared.config.ConfigError.{ConfigError}
use Rattle.fp_small.specs.declared.config.ConfigError.TheVariants.{Bad}
use Rattle.fp_small.specs.ConfigErrors.{key_fault}
use Rattle.fp_small.specs.Order.{sorted_by}
use Rattle.fp_small.specs.Config.{name_of, remote_of, remotes_in, is_row}
use Rattle.fp_small.specs.Old.{are_remotes, remotes_seen, remotes_read, remotes_of, is_ended, are_pins, pins_of, AreRows, ArePatterns}
use Rattle.fp_small.proofs.Ordered.{list_all-sorted_onto, length-sorted_onto, is_ascending-sorted_by}
use Rattle.fp_small.proofs.ConfigReads.{rows_good, names_distinct}

-- ---- the remotes

sorted_good : (file : List Group) → is_good file ≡ true → are_remotes file ≡ true → AreRows (sorted_by name_of (remotes_in file))
sorted_good file good h =
    let few = and_parts (list_all (λ (g : Group). is_some (remote_of g)) file) (leb (length (remotes_in file)) 256) h in
    record {
      good = list_all-sorted_onto is_row name_of [] (remotes_in file) refl (rows_good file);
      ascend = is_ascending-sorted_by name_of (remotes_in file) (names_distinct file (good_parts file good).names);
      few = omega (arith, leb-true (length (remotes_in file)) 256 few.1, length-sorted_onto name_of [] (remotes_in file));
    }

same_rows : {x y : List RemoteRow} → Some x ≡ Some y → x ≡ y
same_rows e = cc

no_rows : {x : List RemoteRow} → None ≡ Some x → ⊥
no_rows e = cc

seen_good : (file : List Group) (rows : List RemoteRow) → is_good file ≡ true → remotes_seen file ≡ Some rows → AreRows rows
seen_good file rows good h =
    elim (cases_Bool (are_remotes file)) [
      | inl e ↦ subst AreRows (same_rows (rw e at h)) (sorted_good file good e)
      | inr e ↦ absurd (no_rows (rw e at h))
    ]

pub remotes_good : (bytes : List ℕ) (rows : List RemoteRow) → remotes_of bytes ≡ Some rows → AreRows rows
unfolding remotes_of
remotes_good bytes rows h = by (file_of bytes) (good_file_of bytes) h
  where
    by : (r : Result (List Group) KeyFault) → IfOk r (λ file. is_good file ≡ true) → remotes_read r ≡ Some rows → AreRows rows
    by (Ok file) good h = seen_good file rows good h
    by (Err fault) good h = absurd (no_rows h)

pub remotes_is : (bytes : List ℕ) (file : List Group) → file_of bytes ≡ Ok file → remotes_of bytes ≡ remotes_seen file
unfolding remotes_of
remotes_is bytes file e = ap remotes_read e

fault_none : (bytes : List ℕ) (fault : KeyFault) → file_of bytes ≡ Err fault → remotes_of bytes ≡ None
unfolding remotes_of
fault_none bytes fault e = ap remotes_read e

bad_key : (bytes : List ℕ) (e : KeyError) → Bad ≡ key_fault e → Fails e (file_of bytes) → remotes_of bytes ≡ None
bad_key bytes (keys.Fault fault) bad h = fault_none bytes fault h
bad_key bytes keys.NoMemory bad h = absurd cc

pub no_remotes : {T : Type 0} (bytes : List ℕ) (e : KeyError) (r : Result T ConfigError) → IsErrAnd r (λ fault. fault ≡ key_fault e) → IsErrOf r Bad → Fails e (file_of bytes) → remotes_of bytes ≡ None
no_remotes {T} bytes e r gives bad h = bad_key bytes e (subst (λ (x : Result T ConfigError). IsErrAnd x (λ fault. fault ≡ key_fault e)) bad gives) h

pub ok_rows : (bytes : List ℕ) (r : Result (List RemoteRow) ConfigError) → IfOk r (λ rows. remotes_of bytes ≡ Some rows) → IfOk r (λ rows. AreRows rows)
ok_rows bytes (Ok rows) h = remotes_good bytes rows h
ok_rows bytes (Err fault) h = tt

-- ---- the last byte

pub some_byte : (bytes : List ℕ) → (length bytes == 0) ≡ false → 0 < length bytes
some_byte [] h = absurd cc
some_byte (b ∷ bytes) h = omega arith

pub is_ended-last : (bytes : List ℕ) → 0 < length bytes → nat_eq (get_or bytes (length bytes - 1) 0) 10 ≡ is_ended bytes
is_ended-last [] long = absurd (omega arith)
is_ended-last (b ∷ []) long = refl
is_ended-last (b ∷ c ∷ bytes) long =
    let step : length (b ∷ c ∷ bytes) - 1 ≡ suc (length (c ∷ bytes) - 1) = omega arith in
    ap (λ k. nat_eq (get_or (b ∷ c ∷ bytes) k 0) 10) step ∙ is_ended-last (c ∷ bytes) (omega arith)

-- ---- the pins

-- the same end, of another result
pub same_end : {T U : Type 0} (r : Result T ConfigError) (e : ConfigError) → IsErrAnd r (λ f. f ≡ e) → IsErrOf r Bad → IsErrOf {T = U} (Err e) Bad
same_end {T} {U} r e gives bad = let is : Bad ≡ e = subst (λ (x : Result T ConfigError). IsErrAnd x (λ f. f ≡ e)) bad gives in subst (λ (f : ConfigError). IsErrOf {T = U} (Err f) Bad) is refl

refused : (bytes : List ℕ) → (is_ended bytes && are_pins (lines_of bytes)) ≡ false → pins_of bytes ≡ None
unfolding pins_of
refused bytes h = rw h refl

pub not_ended : (bytes : List ℕ) → is_ended bytes ≡ false → pins_of bytes ≡ None
not_ended bytes h = refused bytes (and_left (is_ended bytes) (are_pins (lines_of bytes)) h)

no_pins : (bytes : List ℕ) → are_pins (lines_of bytes) ≡ false → pins_of bytes ≡ None
no_pins bytes h = refused bytes (and_right (is_ended bytes) (are_pins (lines_of bytes)) h)

pub not_patterns : (bytes : List ℕ) → list_all is_pin (lines_of bytes) ≡ false → pins_of bytes ≡ None
not_patterns bytes h = no_pins bytes (and_left (list_all is_pin (lines_of bytes)) (is_ascending (lines_of bytes) && leb (length (lines_of bytes)) 1024) h)

not_in_order : (bytes : List ℕ) → (is_ascending (lines_of bytes) && leb (length (lines_of bytes)) 1024) ≡ false → pins_of bytes ≡ None
not_in_order bytes h = no_pins bytes (and_right (list_all is_pin (lines_of bytes)) (is_ascending (lines_of bytes) && leb (length (lines_of bytes)) 1024) h)

pub not_ascending : (bytes : List ℕ) → is_ascending (lines_of bytes) ≡ false → pins_of bytes ≡ None
not_ascending bytes h = not_in_order bytes (and_left (is_ascending (lines_of bytes)) (leb (length (lines_of bytes)) 1024) h)

pub too_many : (bytes : List ℕ) → 1024 < length (lines_of bytes) → pins_of bytes ≡ None
too_many bytes h = not_in_order bytes (and_right (is_ascending (lines_of bytes)) (leb (length (lines_of bytes)) 1024) (lt-leb (length (lines_of bytes)) 1024 h))

pub pins_are : (bytes : List ℕ) → is_ended bytes ≡ true → list_all is_pin (lines_of bytes) ≡ true → is_ascending (lines_of bytes) ≡ true → length (lines_of bytes) ≤ 1024 → pins_of bytes ≡ Some (lines_of bytes)
unfolding pins_of
pins_are bytes ended good ascend few = rw (ended, good, ascend, le-leb (length (lines_of bytes)) 1024 few) refl

same_pins : {x y : List (List ℕ)} → Some x ≡ Some y → x ≡ y
same_pins e = cc

none_pins : {x : List (List ℕ)} → None ≡ Some x → ⊥
none_pins e = cc

lines_good : (lines : List (List ℕ)) → are_pins lines ≡ true → ArePatterns lines
lines_good lines h =
    let a = and_parts (list_all is_pin lines) (is_ascending lines && leb (length lines) 1024) h in
    let b = and_parts (is_ascending lines) (leb (length lines) 1024) a.1 in
    record { good = a.0; ascend = b.0; few = leb-true (length lines) 1024 b.1 }

pub pins_good : (bytes : List ℕ) (pins : List (List ℕ)) → pins_of bytes ≡ Some pins → ArePatterns pins
unfolding pins_of
pins_good bytes pins h =
    elim (cases_Bool (is_ended bytes && are_pins (lines_of bytes))) [
      | inl e ↦ subst ArePatterns (same_pins (rw e at h)) (lines_good (lines_of bytes) (and_parts (is_ended bytes) (are_pins (lines_of bytes)) e).1)
      | inr e ↦ absurd (none_pins (rw e at h))
    ]
