-- Settings with one more pin, and with one less.
use Rattle.std.proofs.Common.{◌≡◌, ℕ, ◌<◌, true, List, length, Contains, arith}
use Rattle.fp_name.specs.Pins.{is_pin}
use Rattle.fp_small.specs.declared.config.Settings.{Settings}
use Rattle.fp_small.specs.Order.{inserted, removed}
use Rattle.fp_small.specs.Config.{IsSettings}
use Rattle.fp_small.proofs.Ordered.{lacks, length-inserted, length-removed, list_all-inserted, list_all-removed, is_ascending-inserted, is_ascending-removed}

pub added : (s : Settings) (p : List ℕ) → IsSettings s → is_pin p ≡ true → (Contains s.pins p → ⊥) → length s.pins < 1024 → IsSettings (record s { pins = inserted (λ q. q) s.pins p })
added s p h good new few = record {
  rows = h.rows;
  patterns = list_all-inserted is_pin (λ q. q) s.pins p h.patterns good;
  remotes_ascend = h.remotes_ascend;
  pins_ascend = is_ascending-inserted s.pins p h.pins_ascend (lacks s.pins p new);
  few_remotes = h.few_remotes;
  few_pins = omega (arith, length-inserted (λ (q : List ℕ). q) s.pins p);
}

pub dropped : (s : Settings) (p : List ℕ) → IsSettings s → IsSettings (record s { pins = removed (λ q. q) s.pins p })
dropped s p h = record {
  rows = h.rows;
  patterns = list_all-removed is_pin (λ q. q) s.pins p h.patterns;
  remotes_ascend = h.remotes_ascend;
  pins_ascend = is_ascending-removed s.pins p h.pins_ascend;
  few_remotes = h.few_remotes;
  few_pins = omega (arith, h.few_pins, length-removed (λ (q : List ℕ). q) s.pins p);
}
