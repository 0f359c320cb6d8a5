-- Worked places, closed by computing: what flatpak 1.14 shows of them, and what is fpk's own.
use Rattle.std.proofs.Common.{◌≡◌, ℕ, Bool, true, List, [], ◌∷◌, refl}
use Rattle.std.specs.Prelude.{codes}
use Rattle.std.specs.List.{list_all}
use Rattle.std.specs.Str.{bytes_eq}
use Rattle.fl_meta.specs.Places.{normal, place_in}

abbrev all_name : List ℕ → List (List ℕ) → Bool
all_name place texts = list_all (λ text. bytes_eq (place_in text) place) texts

abbrev data_texts : List (List ℕ)
data_texts =
    codes "/opt/data" ∷ codes "/opt/data/" ∷ codes "/opt//data" ∷ codes "//opt/data" ∷ codes "/opt/./data" ∷ codes "/./opt/data" ∷ codes "/opt/data/." ∷ codes "/opt/data/./" ∷ codes "/opt/data//" ∷ codes "/opt/data/.//."
    ∷ codes "/opt/data/:rw" ∷ codes "/opt//data/.:create" ∷ codes "/opt/data:ro/" ∷ codes "/opt/data/:ro:rw" ∷ []

paths : all_name (codes "/opt/data") data_texts ≡ true
unfolding normal
paths = refl

dotted_names : list_all (λ text. bytes_eq (place_in text) text) (codes "/opt/..data" ∷ codes "/opt/..." ∷ codes "/opt/.data" ∷ codes "~/.." ∷ codes "xdg-download/.." ∷ []) ≡ true
unfolding normal
dotted_names = refl

below_home : all_name (codes "~/x") (codes "~/x/" ∷ codes "~//x" ∷ codes "~/./x" ∷ codes "~/x/." ∷ []) ≡ true
unfolding normal
below_home = refl

words : all_name (codes "home") (codes "home/" ∷ codes "home//" ∷ codes "home/." ∷ []) ≡ true
unfolding normal
words = refl

all_of_host : all_name (codes "host") (codes "host/" ∷ codes "host//" ∷ []) ≡ true
unfolding normal
all_of_host = refl

known_folder : all_name (codes "xdg-download") (codes "xdg-download/" ∷ codes "xdg-download/." ∷ []) ≡ true
unfolding normal
known_folder = refl

below_known : all_name (codes "xdg-download/a") (codes "xdg-download//a" ∷ codes "xdg-download/./a" ∷ codes "xdg-download/a/" ∷ []) ≡ true
unfolding normal
below_known = refl

-- flatpak takes `~` for `home`, and refuses the others
own_home : all_name (codes "~") (codes "~/" ∷ codes "~//" ∷ codes "~/." ∷ []) ≡ true
unfolding normal
own_home = refl

own_root : all_name (codes "/") (codes "/" ∷ codes "//" ∷ codes "/." ∷ codes "/./" ∷ codes "/:ro" ∷ []) ≡ true
unfolding normal
own_root = refl

own_dots : list_all (λ text. bytes_eq (place_in text) text) (codes "." ∷ codes "./x" ∷ codes ".." ∷ codes "../x" ∷ codes "/opt/../data" ∷ []) ≡ true
unfolding normal
own_dots = refl

no_place : all_name [] ([] ∷ codes ":ro" ∷ codes ":ro:rw" ∷ codes ":ro/" ∷ []) ≡ true
unfolding normal
no_place = refl
