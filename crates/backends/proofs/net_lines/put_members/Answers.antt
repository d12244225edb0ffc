use Rattle.std.proofs.Common.{List, ℕ, ◌++◌, append_assoc, ap, ◌∙◌, sym, map}
use Rattle.geda_defs.specs.Lines.{spaced}
use Rattle.net_list.specs.declared.member.Member.{Member}
use Rattle.backends.proofs.Spaces.{spaced_from_first}
use Rattle.backends.specs.ListText.{member_text}
use Rattle.backends.proofs.net_lines.put_members.Goals as goal

pub returns-in_ok-put_others : goal.returns-in_ok-put_others
returns-in_ok-put_others c =
    c.in_ok-put_others.ensures
    ∙ (rw c.in_ok-put_member.ensures (simp append_assoc)
    ∙ ap (λ (text : List ℕ). c.args.out.now.items ++ text) (sym (spaced_from_first member_text c.in-Some.first.now c.in-Some.others.now))
    ∙ ap (λ (members : List Member). c.args.out.now.items ++ spaced (map member_text members)) (sym c.in-Some.ensures.cases.0))
