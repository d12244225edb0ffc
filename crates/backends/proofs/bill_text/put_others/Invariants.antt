use Rattle.std.proofs.Common.{◌≡◌, ◌∷◌, ◌++◌, drop, map}
use Rattle.std.specs.List.{flat_map}
use Rattle.printed_texts.specs.PrintedTexts.{word}
use Rattle.backends.proofs.bill_text.put_others.Given as goal

abbrev pub invariant-loop-member : goal.invariant-loop-member
invariant-loop-member l = l.out.items ++ flat_map (λ p. 32 ∷ word p.refdes) (map (λ m. m.now) (drop l.member-index l.members)) ≡ l.fn.out.items ++ flat_map (λ p. 32 ∷ word p.refdes) (map (λ m. m.now) l.members)
