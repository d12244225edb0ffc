-- The findings of a project: those on its components, its packages and its nets, and on what its
-- hierarchy leaves out, in order, equal ones once (own).
use Rattle.std.specs.Prelude.{List, ◌++◌, map}
use Rattle.project_model.specs.Projects.{ProjectData}
use Rattle.hierarchy.specs.Instances.{lost_of}
use Rattle.hierarchy.specs.declared.lost.Lost.{Lost}
use Rattle.hierarchy.specs.declared.lost.Lost.TheVariants as losts
use Rattle.net_list.specs.declared.nets.Nets.{Nets}
use Rattle.printed_texts.specs.PrintedTexts.{two_words, word}
use Rattle.pin_matrix.specs.declared.level.Level.{Level}
use Rattle.drc_findings.specs.declared.rule.Rule.TheVariants as drc
use Rattle.drc_findings.specs.declared.finding.Finding.{Finding}
use Rattle.drc_findings.specs.Findings.{a_warning, an_error}
use Rattle.drc_findings.specs.Order.{findings_in_order}
use Rattle.component_checks.specs.CheckedComponents.{CheckedData, checked_components}
use Rattle.component_checks.specs.OnComponents.{found_on_components}
use Rattle.component_checks.specs.OnPackages.{found_on_packages}
use Rattle.drc_rules.specs.OnNets.{found_on_nets}

-- MissingSource: a source of a component names no sheet. SourceLoop: a source is left out, since
-- its sheet is on the way. Unreached: a sheet has no instance
abbrev pub lost_finding : Lost → Finding
lost_finding (losts.MissingSource sheet value) =
    an_error drc.MissingSource (two_words (word sheet) (word value))
lost_finding (losts.SourceLoop refdes sheet) =
    an_error drc.SourceLoop (two_words (word refdes) (word sheet))
lost_finding (losts.Unreached sheet) = a_warning drc.Unreached (word sheet)

-- all that is found, given the components, what is left out, the net list and the matrix
abbrev pub found_in : List CheckedData → List Lost → Nets → List Level → List Finding
found_in cs lost nets matrix =
    found_on_components cs ++ (found_on_packages cs nets.packages
    ++ (found_on_nets matrix nets.nets ++ map lost_finding lost))

-- the findings of a project with this net list under this matrix
abbrev pub findings : ProjectData → Nets → List Level → List Finding
findings p nets matrix = findings_in_order (found_in (checked_components p) (lost_of p) nets matrix)
