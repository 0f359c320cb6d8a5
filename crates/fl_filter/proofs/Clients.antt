-- A recording's client has a unique name.
use Rattle.std.proofs.Common.{◌≡◌, ℕ, ◌+◌, Bool, true, false, ◌==◌, List, [], ◌∷◌, ◌++◌, length, Option, Some, None, Result, Ok, Err, IfOk, refl, subst}
use Rattle.std.specs.Prelude.{◌&&◌, not, is_some, codes, IsTrue, if◌then◌else◌}
use Rattle.std.specs.Option.{ForSome}
use Rattle.std.specs.List.{slice_split}
use Rattle.std.specs.Str.{bytes_eq}
use Rattle.std.proofs.lemmas.Bool.{and_parts}
use Rattle.fp_base.specs.declared.side.Side.{Side}
use Rattle.fp_base.specs.declared.side.Side.TheVariants as side
use Rattle.fp_base.specs.Steps.{◌>>=◌, where_it}
use Rattle.bus_frame.specs.Names.{is_unique, is_well_known}
use Rattle.bus_stream.specs.declared.recording.Recording.{Recording}
use Rattle.bus_stream.specs.declared.recording.RecordError.{RecordError}
use Rattle.bus_stream.specs.declared.recording.RecordError.TheVariants.{BadRecord, NoMemory}
use Rattle.fp_base.specs.Parts.{parts_at, hex_in}
use Rattle.bus_stream.specs.Recordings.{nothing_said, with_client, with_owner, with_piece, with_line, with_lines, or_bad, push_names, is_owned, recording_of, AnswersRecording}

abbrev HasUnique : Recording → Type 0
HasUnique r = ForSome r.client (λ name. IsTrue (is_unique name))

-- so it is where there is one
abbrev IfSo : Option Recording → Type 0
IfSo None = Unit {0}
IfSo (Some r) = HasUnique r

same_name : (a b : List ℕ) → Some a ≡ Some b → a ≡ b
same_name a b e = cc

of_client : (r : Recording) (name : List ℕ) → IfSo (with_client r name)
unfolding with_client
of_client r name = by (length r.pieces == 0 && not (is_some r.client) && is_unique name) refl
  where
    by : (b : Bool) → (length r.pieces == 0 && not (is_some r.client) && is_unique name) ≡ b → IfSo (where_it b (record r { client = Some name }))
    by false e = tt
    by true e = λ x s. subst (λ (n : List ℕ). is_unique n ≡ true) (same_name name x s) (and_parts (length r.pieces == 0 && not (is_some r.client)) (is_unique name) e).1

of_owner : (r : Recording) (names : List ℕ) → HasUnique r → IfSo (with_owner r names)
unfolding with_owner
of_owner r names has = by (parts_at 32 names)
  where
    by : (o : Option (List ℕ × List ℕ)) → IfSo (o >>= (λ parts. where_it (length r.pieces == 0 && is_well_known parts.0 && is_unique parts.1 && not (is_owned r parts.0)) (push_names r parts)))
    by None = tt
    by (Some parts) = put (length r.pieces == 0 && is_well_known parts.0 && is_unique parts.1 && not (is_owned r parts.0))
      where
        put : (b : Bool) → IfSo (where_it b (push_names r parts))
        put false = tt
        put true = has

of_piece : (side : Side) (r : Recording) (text : List ℕ) → HasUnique r → IfSo (with_piece side r text)
unfolding with_piece
of_piece side r text has = by (hex_in text)
  where
    by : (o : Option (List ℕ)) → IfSo (o >>= (λ bytes. Some (record r { pieces = r.pieces ++ (side, bytes) ∷ [] })))
    by None = tt
    by (Some bytes) = has

either : (b : Bool) (x y : Option Recording) → IfSo x → IfSo y → IfSo (if b then x else y)
either true x y p q = p
either false x y p q = q

abbrev said : Recording → List ℕ × List ℕ → Option Recording
said r parts =
    if bytes_eq parts.0 (codes "client") then with_client r parts.1
    else (if bytes_eq parts.0 (codes "owner") then with_owner r parts.1
    else (if bytes_eq parts.0 (codes "c") then with_piece side.Client r parts.1
    else (if bytes_eq parts.0 (codes "b") then with_piece side.Bus r parts.1
    else None)))

of_line : (r : Recording) (line : List ℕ) → HasUnique r → IfSo (with_line r line)
unfolding with_line
of_line r line has = by (parts_at 32 line)
  where
    by : (o : Option (List ℕ × List ℕ)) → IfSo (o >>= said r)
    by None = tt
    by (Some parts) =
        either (bytes_eq parts.0 (codes "client")) _ _ (of_client r parts.1)
        (either (bytes_eq parts.0 (codes "owner")) _ _ (of_owner r parts.1 has)
        (either (bytes_eq parts.0 (codes "c")) _ _ (of_piece side.Client r parts.1 has)
        (either (bytes_eq parts.0 (codes "b")) _ _ (of_piece side.Bus r parts.1 has) tt)))

of_lines : (number : ℕ) (r : Recording) (lines : List (List ℕ)) → HasUnique r → IfOk (with_lines number r lines) HasUnique
of_lines number r [] has = has
of_lines number r (last ∷ []) has = by (length last == 0)
  where
    by : (b : Bool) → IfOk (if b then Ok r else Err number) HasUnique
    by true = has
    by false = tt
of_lines number r (line ∷ next ∷ more) has = by (with_line r line) (of_line r line has) (λ s k. of_lines (number + 1) s (next ∷ more) k)
  where
    by : (o : Option Recording) → IfSo o → ((s : Recording) → HasUnique s → IfOk (with_lines (number + 1) s (next ∷ more)) HasUnique) → IfOk (or_bad number o (λ s. with_lines (number + 1) s (next ∷ more))) HasUnique
    by None k rest = tt
    by (Some s) k rest = rest s k

none_some : (x : List ℕ) → None ≡ Some x → ⊥
none_some x e = cc

of_bytes : (bytes : List ℕ) → IfOk (recording_of bytes) HasUnique
unfolding recording_of
of_bytes bytes = of_lines 1 nothing_said (slice_split (λ b. b == 10) bytes) (λ x s. absurd (none_some x s))

pub client_is_unique : (bytes : List ℕ) (r : Result Recording RecordError) → AnswersRecording r (recording_of bytes) → IfOk r (λ x. ForSome x.client (λ name. IsTrue (is_unique name)))
client_is_unique bytes (Ok r) is = subst (λ (x : Result Recording ℕ). IfOk x HasUnique) is (of_bytes bytes)
client_is_unique bytes (Err (BadRecord number)) is = tt
client_is_unique bytes (Err NoMemory) is = tt
