use Rattle.std.proofs.Common.{◌≡◌, ◌-◌}
use Rattle.std.specs.HashSet.{contains_text}
use Rattle.std.specs.String.{string_bytes}
use Rattle.refdes_renum.specs.Numbers.{first_free, greatest_u64, stem_with_number}
use Rattle.refdes_renum.proofs.used.first_free.Given as goal

abbrev pub invariant-loop-number : goal.invariant-loop-number
invariant-loop-number l = record {
  text : string_bytes l.text ≡ stem_with_number l.stem l.number;
  left : first_free (λ n. contains_text l.used (stem_with_number l.stem n)) l.number (greatest_u64 - l.number)
      ≡ first_free (λ n. contains_text l.used (stem_with_number l.stem n)) l.from (greatest_u64 - l.from);
}

abbrev pub decreases-loop-number : goal.decreases-loop-number
decreases-loop-number l = greatest_u64 - l.number
