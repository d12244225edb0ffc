use Rattle.std.proofs.Common.{◌≡◌, ◌∙◌, ap}
use Rattle.std.specs.Fmt.{styled_decimal}
use Rattle.std.specs.String.{string_bytes}
use Rattle.etcd_text.specs.Keys.{ten_digits}
use Rattle.etcd_text.proofs.KeyLemmas.{in_ten_digits, written}
use Rattle.etcd_text.proofs.keys.ten_digits.Goals as goal

pub returns : goal.returns
returns c =
    let is : styled_decimal c.laid_out.result c.args.number ≡ ten_digits c.args.number
    = ap (λ s. styled_decimal s c.args.number) c.laid_out.ensures ∙ in_ten_digits c.args.number in
    written string_bytes c.format.result (styled_decimal c.laid_out.result c.args.number)
    (ten_digits c.args.number) is c.format.ensures.ok
