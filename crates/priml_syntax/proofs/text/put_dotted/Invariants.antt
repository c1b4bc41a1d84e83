use Rattle.std.proofs.Common.{◌≡◌, ◌+◌, ◌*◌, ◌≤◌, ◌++◌, drop}
use Rattle.std.specs.String.{string_bytes, string_len, string_capacity}
use Rattle.std.specs.List.{flat_map}
use Rattle.priml_syntax.specs.Text.{dotted}
use Rattle.priml_syntax.proofs.text.put_dotted.Given as goal

abbrev pub invariant-loop-number : goal.invariant-loop-number
invariant-loop-number l =
    record {
      bytes : string_bytes l.text ++ flat_map dotted (drop l.number-index l.numbers) ≡ string_bytes l.fn.text ++ flat_map dotted l.numbers;
      len : string_len l.text ≤ string_len l.fn.text + 11 * l.number-index;
      capacity : string_capacity l.fn.text ≤ string_capacity l.text;
    }
