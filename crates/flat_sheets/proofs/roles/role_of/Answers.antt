use Rattle.std.proofs.Common.{◌∙◌, ap}
use Rattle.attr_rules.specs.Components.{if_line}
use Rattle.attr_rules.specs.FirstValues.{ValuesData}
use Rattle.attr_rules.specs.Libraries.{library_of}
use Rattle.attr_rules.proofs.ValueLaws.{refdes_is}
use Rattle.hierarchy.proofs.TextLemmas.{refdes_bytes}
use Rattle.flat_sheets.proofs.RoleLaws.{role_by-is}
use Rattle.flat_sheets.proofs.roles.role_of.Goals as goal

pub role_by-requires : goal.role_by-requires
role_by-requires c = λ text e.
    let o = c.args.found.now.flat.object in
    let library = library_of c.args.found.now.project o in
    refdes_bytes o library text (e ∙ ap (λ (v : ValuesData). if_line v.refdes) c.requires.values ∙ refdes_is o library)

pub returns : goal.returns
returns c =
    let p = c.args.found.now.project in
    let f = c.args.found.now.flat in
    c.in_ok-role.ensures ∙ role_by-is p f (library_of p f.object) c.args.component.now c.requires.body c.args.values.now c.requires.values
