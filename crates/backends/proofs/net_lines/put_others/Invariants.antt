use Rattle.std.proofs.Common.{◌≡◌, ◌∷◌, ◌++◌, drop}
use Rattle.std.specs.List.{flat_map}
use Rattle.backends.specs.ListText.{member_text}
use Rattle.backends.proofs.net_lines.put_others.Given as goal

abbrev pub invariant-loop-member : goal.invariant-loop-member
invariant-loop-member l = l.out.items ++ flat_map (λ m. 32 ∷ member_text m) (drop l.member-index l.members) ≡ l.fn.out.items ++ flat_map (λ m. 32 ∷ member_text m) l.members
