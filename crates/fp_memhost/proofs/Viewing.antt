-- A view after an edit of what is kept.
use Rattle.std.proofs.Common.{◌≡◌, ℕ, List, [], ◌∷◌, ◌++◌, refl, ◌∙◌, ap, map}
use Rattle.std.proofs.lemmas.List.{map-append}
use Rattle.fp_host.specs.Paths.{Elements, Slot, absent, file}
use Rattle.fp_host.specs.Calls.{put, may_put, with_file, grow, done, syncs}
use Rattle.fp_memhost.specs.declared.names.Name.{Name}
use Rattle.fp_memhost.specs.declared.files.Content.{Content}
use Rattle.fp_memhost.specs.declared.stood.Stood.{Stood}
use Rattle.fp_memhost.specs.Stood.{stood_of}
use Rattle.fp_memhost.specs.Names.{names_of, earlier_of, SameNames, PutsName, MayPutName, ForgetsNames}
use Rattle.fp_memhost.specs.Files.{files_of, dirty_of, SameFiles, AddsFile, GrowsFile, SettlesFiles}
use Rattle.fp_memhost.specs.Scenes.{view_from}

pub same_names : (names : List Name) → SameNames names names
same_names names = record { names = λ q. refl; earlier = λ q. refl }

pub same_files : (files : List Content) → SameFiles files files
same_files files = record { files = λ id. refl; dirty = λ id. refl }

pub names_on : {a b c : List Name} → SameNames a b → SameNames b c → SameNames a c
names_on one two = record { names = λ q. two.names q ∙ one.names q; earlier = λ q. two.earlier q ∙ one.earlier q }

module _ {a b : List Name} (same : SameNames a b) where
  n_is : names_of b ≡ names_of a
  n_is i q = same.names q i

  e_is : earlier_of b ≡ earlier_of a
  e_is i q = same.earlier q i

pub same_view : {a b : List Name} {f g : List Content} (printed : List ℕ) (stood : List (Elements × Slot)) → SameNames a b → SameFiles f g → view_from b g printed stood ≡ view_from a f printed stood
same_view printed stood names files i = record { names = λ q. names.names q i; files = λ id. files.files id i; earlier = λ q. names.earlier q i; dirty = λ id. files.dirty id i; printed = printed; stood = stood }

pub put_view : {a b c : List Name} {p : Elements} {e : Slot} (f : List Content) (printed : List ℕ) (stood : List (Elements × Slot)) → SameNames a b → PutsName p e b c → view_from c f printed (stood ++ (p, e) ∷ []) ≡ put p e (view_from a f printed stood)
put_view {a = a} {b = b} {c = c} {p = p} {e = e} f printed stood same puts = (λ i. record { names = λ q. puts.names q i; files = files_of f; earlier = λ q. puts.earlier q i; dirty = dirty_of f; printed = printed; stood = stood ++ (p, e) ∷ [] }) ∙ ap (put p e) (same_view printed stood same (same_files f))

pub may_put_view : {a b c : List Name} {p : Elements} {e : Slot} (f : List Content) (printed : List ℕ) (stood : List (Elements × Slot)) → SameNames a b → MayPutName p e b c → view_from c f printed stood ≡ may_put p e (view_from a f printed stood)
may_put_view {a = a} {b = b} {c = c} {p = p} {e = e} f printed stood same puts =
    (λ i. record { names = λ q. puts.names q i; files = files_of f; earlier = λ q. puts.earlier q i; dirty = dirty_of f; printed = printed; stood = stood }) ∙ ap (may_put p e) (same_view printed stood same (same_files f))

pub add_view : {f g : List Content} {id mode : ℕ} (names : List Name) (printed : List ℕ) (stood : List (Elements × Slot)) → AddsFile id mode f g → view_from names g printed stood ≡ with_file id mode (view_from names f printed stood)
add_view names printed stood adds i = record { names = names_of names; files = λ id. adds.files id i; earlier = earlier_of names; dirty = λ id. adds.dirty id i; printed = printed; stood = stood }

pub grow_view : {f g : List Content} {id : ℕ} {bytes : List ℕ} (names : List Name) (printed : List ℕ) (stood : List (Elements × Slot)) → GrowsFile id bytes f g → view_from names g printed stood ≡ grow (file id) bytes (view_from names f printed stood)
grow_view names printed stood grows i = record { names = names_of names; files = λ id. grows.files id i; earlier = earlier_of names; dirty = λ id. grows.dirty id i; printed = printed; stood = stood }

pub sync_view : {a b : List Name} {f g : List Content} (printed : List ℕ) (stood : List (Elements × Slot)) → ForgetsNames a b → SettlesFiles f g → view_from b g printed stood ≡ done syncs (view_from a f printed stood)
sync_view printed stood names files i = record { names = λ q. names.names q i; files = λ id. files.files id i; earlier = λ q. names.earlier q i; dirty = λ id. files.dirty id i; printed = printed; stood = stood }

-- two things more are remembered
pub remembers_two : (xs ys zs : List Stood) (x y : Stood) (a b : Elements × Slot) → ys ≡ xs ++ x ∷ [] → zs ≡ ys ++ y ∷ [] → stood_of x ≡ a → stood_of y ≡ b → map stood_of zs ≡ (map stood_of xs ++ a ∷ []) ++ b ∷ []
remembers_two xs ys zs x y a b first second is_a is_b =
    ap (map stood_of) (second ∙ ap (λ (l : List Stood). l ++ y ∷ []) first)
    ∙ map-append stood_of (xs ++ x ∷ []) (y ∷ [])
    ∙ ap (λ (l : List (Elements × Slot)). l ++ stood_of y ∷ []) (map-append stood_of xs (x ∷ []))
    ∙ (λ i. (map stood_of xs ++ is_a i ∷ []) ++ is_b i ∷ [])

-- what a name held is put at another, and the first is absent
pub move_view : {a b c d : List Name} {from to : Elements} {e : Slot} (f : List Content) (printed : List ℕ) (stood after : List (Elements × Slot)) (held : Slot) → SameNames a b → PutsName to e b c → PutsName from absent c d → e ≡ held
    → after ≡ (stood ++ (to, e) ∷ []) ++ (from, absent) ∷ [] → view_from d f printed after ≡ put from absent (put to held (view_from a f printed stood))
move_view {a = a} {c = c} {d = d} {from = from} {to = to} {e = e} f printed stood after held same puts leaves is told =
    ap (view_from d f printed) told
    ∙ put_view f printed (stood ++ (to, e) ∷ []) (same_names c) leaves
    ∙ ap (put from absent) (put_view f printed stood same puts)
    ∙ ap (λ (x : Slot). put from absent (put to x (view_from a f printed stood))) is
