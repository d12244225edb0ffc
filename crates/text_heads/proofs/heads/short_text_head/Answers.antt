use Rattle.std.proofs.Common.{◌≡◌, rules, arith, sym, ap, ◌∙◌}
use Rattle.text_heads.specs.Heads.{head_from}
use Rattle.text_heads.proofs.heads.short_text_head.Goals as goal

pub returns : goal.returns
returns c =
    let head : head_from 4 0 c.args.text.now ≡ c.four_at.result = ap (head_from 4 0) (sym c.as_bytes.ensures.value) ∙ c.four_at.ensures.head 0 ∙ omega arith in
    record {
      is = sym head;
      bytes = search (rules, arith);
    }
