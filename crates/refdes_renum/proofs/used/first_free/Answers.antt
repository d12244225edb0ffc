use Rattle.std.proofs.Common.{◌≡◌, ◌-◌, ℕ, Bool, true, false, sym, ap, ◌∙◌, arith}
use Rattle.std.specs.HashSet.{contains_text}
use Rattle.refdes_renum.specs.Numbers.{greatest_u64, stem_with_number}
use Rattle.refdes_renum.proofs.NumberLemmas.{first_free-end, first_free-step, first_free-stop}
use Rattle.refdes_renum.proofs.used.first_free.Goals.{then-loop-number-test+else-contains, else-loop-number-test}
use Rattle.refdes_renum.proofs.used.first_free.Goals as goal

pub loop-number-preserved : goal.loop-number-preserved
loop-number-preserved c =
    let number = c.loop-number.number in
    let taken : ℕ → Bool = λ n. contains_text c.args.used.now (stem_with_number c.args.stem.now n) in
    let hit : taken number ≡ true = ap (contains_text c.args.used.now) (sym c.loop-number.invariant.text ∙ sym c.as_str.ensures.value) ∙ sym c.contains.ensures ∙ c.if-contains.true in
    record {
      text = c.in_ok-text-2.ensures;
      left = sym (first_free-step taken number (omega (arith, c.loop-number-test.true)) hit) ∙ c.loop-number.invariant.left;
    }

pub returns-clause-number : goal.returns-clause-number
returns-clause-number c = elim c.loop-number-test.branch [
  | then-loop-number-test+else-contains w ↦
      let number = c.loop-number.number in
      let taken : ℕ → Bool = λ n. contains_text c.args.used.now (stem_with_number c.args.stem.now n) in
      let free : taken number ≡ false = ap (contains_text c.args.used.now) (sym c.loop-number.invariant.text ∙ sym w.as_str.ensures.value) ∙ sym w.contains.ensures ∙ w.if-contains.false in
      sym (first_free-stop taken number (greatest_u64 - number) free) ∙ c.loop-number.invariant.left
  | else-loop-number-test w ↦
      let number = c.loop-number.number in
      let taken : ℕ → Bool = λ n. contains_text c.args.used.now (stem_with_number c.args.stem.now n) in
      sym (first_free-end taken number (omega (arith, w.loop-number-test.false))) ∙ c.loop-number.invariant.left
]
