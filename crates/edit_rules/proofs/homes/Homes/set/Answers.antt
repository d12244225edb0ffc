use Rattle.std.proofs.Common.{IsSome, None, Some, refl, sym, ap, subst, ◌∙◌, ◌≡◌}
use Rattle.std.specs.FinMap as map
use Rattle.project_model.proofs.Rows.{names, get_row, put_row}
use Rattle.edit_rules.proofs.RowLemmas.{no_row}
use Rattle.edit_rules.proofs.homes.Homes.set.Goals as goal

pub returns-in-Some : goal.returns-in-Some
returns-in-Some c =
    let known = c.in-Some.ensures.value in
    put_row names c.self.inside.rows.entries (c.get_mut.follows.lender c.args.count).entries c.args.name.now c.args.count
    ((c.get_mut.follows.holds c.args.count).3 (rw (sym known) refl)).0
    ∙ ap (λ t. map.insert t.rows c.args.name.now c.args.count) c.self.view_is

pub returns : goal.returns
returns c =
    let none : None ≡ map.get c.args.self.now.rows c.args.name.now =
    c.in_default.ensures.value ∙ sym (get_row names c.self.inside.rows.entries c.args.name.now) ∙ ap (λ t. map.get t.rows c.args.name.now) c.self.view_is in
    no_row _ none c.requires
