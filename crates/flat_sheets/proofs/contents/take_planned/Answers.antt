use Rattle.std.proofs.Common.{◌≡◌, ◌∙◌, ◌++◌, Option, ap}
use Rattle.std.specs.Option.{option_to_list}
use Rattle.attr_rules.specs.FirstValues.{values_of}
use Rattle.attr_rules.specs.Libraries.{library_of}
use Rattle.net_list.specs.declared.package.Package.{Package}
use Rattle.flat_sheets.specs.Conductors.{RoleData}
use Rattle.flat_sheets.specs.steps.ObjectContents.{role_at}
use Rattle.flat_sheets.specs.steps.RoleValues.{package_by}
use Rattle.flat_sheets.proofs.RoleLaws.{package_by-is}
use Rattle.flat_sheets.proofs.contents.take_planned.Goals as goal

pub returns-clause-parts : goal.returns-clause-parts
returns-clause-parts c =
    let p = c.args.found.now.project in
    let o = c.args.found.now.flat.object in
    let library = library_of p o in
    let v = c.args.planned.now.values in
    let is : v ≡ values_of o library = c.requires.values in
    let all = λ (part : Option Package). c.args.rows.now.parts ++ option_to_list part in
    c.in_ok-push_plan.ensures.parts ∙ c.in_ok-listed.ensures.parts
    ∙ ap (λ (r : RoleData). all (package_by v r.refdes)) c.in_ok-role.ensures
    ∙ ap all (package_by-is o library v is (role_at p c.args.found.now.flat).refdes)
