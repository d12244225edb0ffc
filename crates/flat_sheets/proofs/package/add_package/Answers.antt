use Rattle.std.proofs.Common.{◌++◌, ◌∷◌, [], List, ℕ, Some, ap, sym, ◌∙◌}
use Rattle.net_list.specs.declared.package.Package.{Package}
use Rattle.flat_rows.specs.Rows.{refdes_at}
use Rattle.flat_sheets.proofs.PartLemmas.{refdes_last}
use Rattle.flat_sheets.proofs.package.add_package.Goals as goal

pub returns-in_ok-place-in-Some-clause-refdes : goal.returns-in_ok-place-in-Some-clause-refdes
returns-in_ok-place-in-Some-clause-refdes c =
    let parts = c.args.rows.now.parts in
    ap (λ (refdes : List ℕ). Some refdes)
    (ap (λ (ps : List Package). refdes_at ps c.in_ok-place-in-Some.place) c.in_ok-place-in-Some.ensures.parts
    ∙ ap (λ (n : ℕ). refdes_at (parts ++ c.in_ok-package-in-Some.package ∷ []) n) c.in_ok-place-in-Some.ensures.place
    ∙ refdes_last parts c.in_ok-package-in-Some.package
    ∙ c.in_ok-package-in-Some.ensures.refdes)
    ∙ sym c.in-Some.is
