use Rattle.std.proofs.Common.{◌≡◌, ℕ, List, drop, rules, arith, sym, ap, ◌∙◌}
use Rattle.text_heads.specs.Heads.{head_from}
use Rattle.text_heads.proofs.HeadLemmas.{eight_bytes}
use Rattle.text_heads.proofs.heads.text_head.Goals as goal

pub returns : goal.returns
returns c =
    let text = c.args.text.now in
    let first = c.four_at.result in
    let same = sym c.as_bytes-bytes.ensures.value in
    let head : head_from 4 0 text ≡ first = ap (head_from 4 0) same ∙ c.four_at.ensures.head 0 ∙ omega arith in
    let rest = ap (λ (bytes : List ℕ). head_from 4 first (drop 4 bytes)) same ∙ c.four_at-2.ensures.head first in
    record {
      is = sym (eight_bytes text ∙ ap (λ (k : ℕ). head_from 4 k (drop 4 text)) head ∙ rest);
      bytes = search (rules, arith);
    }
