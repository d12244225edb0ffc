use Rattle.std.proofs.Common.{arith, ◌∙◌}
use Rattle.text_heads.proofs.HeadLemmas.{heads_compare}
use Rattle.net_names.specs.steps.Pins.{by_number}
use Rattle.net_names.proofs.class_pins.ClassPinOrd.cmp.Goals as goal

pub returns-then-self-other : goal.returns-then-self-other
returns-then-self-other c =
    c.cmp.ensures
    ∙ heads_compare 4 c.self.inside.head c.other.inside.head _ _ c.self.invariant c.other.invariant (λ e. grind (arith, c.if-self-other.true, e))
    ∙ (λ i. by_number (c.self.view_is i) (c.other.view_is i))
