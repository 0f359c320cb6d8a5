-- Recordings whose sides sent the same bytes.
use Rattle.std.proofs.Common.{◌≡◌, List, map}
use Rattle.std.specs.Prelude.{reverse, option_map}
use Rattle.bus_stream.specs.declared.recording.Recording.{Recording}
use Rattle.bus_policy.specs.declared.policy.PolicyRule.{PolicyRule}
use Rattle.bus_proxy.specs.Arrivals.{bytes_fed}
use Rattle.bus_proxy.specs.Outs.{setting, forwarded}
use Rattle.bus_proxy.proofs.Cutting.{alike}
use Rattle.fl_filter.specs.Filtered.{filtered, out_text, broken}

pub same_answer : (rules : List PolicyRule) (one two : Recording) → one.client ≡ two.client → one.owners ≡ two.owners
    → bytes_fed (reverse one.pieces) ≡ bytes_fed (reverse two.pieces) → filtered rules one ≡ filtered rules two
same_answer rules one two client owners bytes =
    let alike = alike (reverse one.pieces) (reverse two.pieces) bytes in
    λ i. record {
      lines = map out_text (forwarded (setting rules (client i) (owners i)) (alike.events i));
      refusal = option_map broken (alike.end i);
    }
