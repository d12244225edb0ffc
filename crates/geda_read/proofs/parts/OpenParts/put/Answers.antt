use Rattle.std.proofs.Common.{◌≡◌, List, Option, Some, sym, refl, ap, ◌∙◌}
use Rattle.std.specs.Option.{option_map}
use Rattle.geda_model.specs.Shapes.{PartData}
use Rattle.geda_model.specs.declared.shape.Shape.{Shape}
use Rattle.geda_grammar.specs.steps.Sheets.{make_part}
use Rattle.geda_model.specs.Shapes.{part_with, with_last}
use Rattle.geda_model.specs.Limits.{most_objects}
use Rattle.geda_model.specs.Data.{TextData}
use Rattle.geda_grammar.specs.steps.Levels.{Level, push, put, text_in}
use Rattle.geda_read.specs.steps.Levels.{parts_level}
use Rattle.geda_read.proofs.LastOnes.{attached_stands, no_text, put_more, put_text}
use Rattle.geda_read.proofs.parts.OpenParts.put.Goals as goal

pub returns-in_default-clause-taken : goal.returns-in_default-clause-taken
returns-in_default-clause-taken c =
    let news : TextData → Level PartData Shape = λ (t : TextData). parts_level (with_last (part_with t) c.self.inside.items) c.self.inside.tail in
    rw (← c.self.view_is) (put_text PartData Shape (λ p. p.shape) (λ p. p.attrs) make_part (λ p. refl) (λ t p. part_with t p) (λ t p. refl) (λ t p. refl) (λ s. s) most_objects c.args.shape c.self.inside.items c.self.inside.tail c.self.invariant.last (sym c.is_open.ensures ∙ c.if-is_open.true) ∙ ap (λ (o : Option TextData). option_map news o) (no_text c.args.shape c.in_default.not-Text))

pub invariant_of-self-then-is_open : goal.invariant_of-self-then-is_open
invariant_of-self-then-is_open c = attached_stands PartData Shape (λ p. p.shape) (λ p. p.attrs) make_part (λ p. refl) (λ t p. part_with t p) (λ t p. refl) (λ t p. refl) c.in-Text.text c.self.inside.items c.self.inside.tail c.attach.new.self c.self.invariant (sym c.is_open.ensures ∙ c.if-is_open.true) c.in_ok-attach.ensures.ok

pub returns-then-is_open-clause-taken : goal.returns-then-is_open-clause-taken
returns-then-is_open-clause-taken c =
    let news : TextData → Level PartData Shape = λ (t : TextData). parts_level (with_last (part_with t) c.self.inside.items) c.self.inside.tail in
    rw (← c.self.view_is) (put_text PartData Shape (λ p. p.shape) (λ p. p.attrs) make_part (λ p. refl) (λ t p. part_with t p) (λ t p. refl) (λ t p. refl) (λ s. s) most_objects c.args.shape c.self.inside.items c.self.inside.tail c.self.invariant.last (sym c.is_open.ensures ∙ c.if-is_open.true) ∙ ap (λ (s : Shape). option_map news (text_in s)) c.in-Text.is ∙ ap (λ (l : List PartData). Some (parts_level l c.self.inside.tail)) (sym c.in_ok-attach.ensures.ok))

pub returns-clause-taken : goal.returns-clause-taken
returns-clause-taken c =
    let same : put make_part (λ s. s) most_objects c.args.shape c.args.self.now.kept c.args.self.now.mode ≡ push make_part most_objects c.args.shape c.args.self.now.kept c.args.self.now.mode = rw (← c.self.view_is) (put_more PartData Shape (λ p. p.shape) (λ p. p.attrs) make_part (λ p. refl) (λ s. s) most_objects c.args.shape c.self.inside.items c.self.inside.tail c.self.invariant.last (sym c.is_open.ensures ∙ c.if-is_open.false)) in
    rw same c.push.ensures.taken
