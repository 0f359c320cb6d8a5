-- Stores that are filled, ware by ware.
use Rattle.std.proofs.Common.{◌+◌, ℕ, List, [], ◌∷◌, ◌++◌, Option, sym, ◌∙◌, ap, subst, append_assoc}
use Rattle.std.specs.List.{list_any}
use Rattle.std.proofs.lemmas.List.{append-nil, flat_map_more}
use Rattle.fp_host.specs.Outcome.{Spot}
use Rattle.fl_gen.specs.declared.store.Row.{Row}
use Rattle.fl_gen.specs.declared.limits.TheConstants.{RUNTIMES}
use Rattle.fl_gen.specs.Made.{Ware, each_of, wares, runtime_ware, app_ware}
use Rattle.fl_gen.specs.Stores.{Entry, Offer, IsOfferOf, AreOffersOf, IsStoreOf, config_entry, offer_entries, store_entries, spot_by, entry_spot}
use Rattle.fl_gen.specs.Keeping.{Adds, Brings, Keeps, Stocks, covers, disk_of_rows}
use Rattle.fl_gen.proofs.Entries.{keeps_nothing}
use Rattle.fl_gen.proofs.Counting.{one_more}

pub stocks_bare : {version : ℕ} {rows : List Row} → Adds (config_entry ∷ []) [] rows → Stocks version [] rows
stocks_bare adds = record { offers = []; offered = tt; keeps = adds.after [] keeps_nothing }

offers_more : (version : ℕ) (ws : List Ware) (w : Ware) (os : List Offer) (o : Offer) → AreOffersOf version ws os → IsOfferOf version w o → AreOffersOf version (ws ++ w ∷ []) (os ++ o ∷ [])
offers_more version [] w [] o all one = (one, tt)
offers_more version [] w (x ∷ os) o all one = absurd all
offers_more version (v ∷ ws) w [] o all one = absurd all
offers_more version (v ∷ ws) w (x ∷ os) o all one = (all.0, offers_more version ws w os o all.1 one)

pub brings_one : (version : ℕ) (w : Ware) (o : Offer) {old new : List Row} → IsOfferOf version w o → Adds (offer_entries o) old new → Brings version (w ∷ []) old new
brings_one version w o {new = new} is adds = record {
  after = λ ws s. record {
    offers = s.offers ++ o ∷ [];
    offered = offers_more version ws w s.offers o s.offered is;
    keeps = subst (λ (l : List Entry). Keeps l new) (flat_map_more offer_entries (config_entry ∷ []) s.offers o) (adds.after (store_entries s.offers) s.keeps);
  };
}

pub brings_none : (version : ℕ) (rows : List Row) → Brings version [] rows rows
brings_none version rows = record { after = λ ws s. subst (λ (l : List Ware). Stocks version l rows) (sym (append-nil ws)) s }

pub brings_on : {version : ℕ} {xs ys : List Ware} {s t u : List Row} → Brings version xs s t → Brings version ys t u → Brings version (xs ++ ys) s u
brings_on {version = version} {xs = xs} {ys = ys} {u = u} first second = record {
  after = λ ws stocks. subst (λ (l : List Ware). Stocks version l u) (append_assoc ws xs ys) (second.after (ws ++ xs) (first.after ws stocks));
}

-- one ware more of a series
pub brings_more : {version : ℕ} (f : ℕ → Ware) (n : ℕ) {s t u : List Row} → Brings version (each_of f n) s t → Brings version (f n ∷ []) t u → Brings version (each_of f (n + 1)) s u
brings_more {version = version} f n {s = s} {u = u} first second = subst (λ (l : List Ware). Brings version l s u) (sym (one_more f n)) (brings_on first second)

pub store_made : (version apps : ℕ) (bare runtimes : List Row) (rows : List Row) → Stocks version [] bare → Brings version (each_of (runtime_ware version) RUNTIMES) bare runtimes → Brings version (each_of (app_ware version) apps) runtimes rows
    → IsStoreOf version (wares version apps) (disk_of_rows rows)
store_made version apps bare runtimes rows stocks first second =
    let s = second.after (each_of (runtime_ware version) RUNTIMES) (first.after [] stocks) in
    record {
      offers = s.offers;
      offered = s.offered;
      settled = s.keeps.settled;
      shows = λ q. ap (λ (o : Option Spot). spot_by o (list_any (covers q) rows)) (s.keeps.spots q) ∙ ap (spot_by (entry_spot (store_entries s.offers) q)) (s.keeps.folders q);
    }
