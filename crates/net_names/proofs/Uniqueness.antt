-- The links determine the labels of classes, and so the net list.
use Rattle.std.proofs.Common.{◌≡◌, ℕ, ◌<◌, List, get_or, sym, ap, ◌∙◌, arith}
use Rattle.std.proofs.lemmas.List.{ext_get_or}
use Rattle.geda_defs.specs.Classes.{AreClasses}
use Rattle.project_model.specs.Projects.{ProjectData}
use Rattle.flat_rows.specs.Conductors.{FlatConductor}
use Rattle.net_list.specs.declared.nets.Net.{Net}
use Rattle.net_list.specs.declared.nets.Nets.{Nets}
use Rattle.net_list.specs.declared.package.Package.{Package}
use Rattle.net_names.specs.NetLists.{AreNetsOf, IsNetListOf, nets_by}

same_labels : (R : ℕ → ℕ → Type 0) (count : ℕ) (xs ys : List ℕ) → AreClasses R count xs → AreClasses R count ys → xs ≡ ys
same_labels R count xs ys p q =
    ext_get_or 0 xs ys (p.len ∙ sym q.len) (λ i h.
    let inside : i < count = omega (arith, p.len) in
    omega (arith, p.least i (get_or ys i 0) inside (q.chain i inside), q.least i (get_or xs i 0) inside (p.chain i inside)))

pub same_nets : (conductors : List FlatConductor) (xs ys : List Net) → AreNetsOf conductors xs → AreNetsOf conductors ys → xs ≡ ys
same_nets conductors xs ys a b = a.2 ∙ ap (nets_by conductors) (same_labels _ _ a.0 b.0 a.1 b.1) ∙ sym b.2

both_parts : (a b : Nets) → a.packages ≡ b.packages → a.nets ≡ b.nets → a ≡ b
both_parts a b p q =
    let first : a ≡ record { packages = b.packages; nets = a.nets } = ap (λ (packages : List Package). record { packages = packages; nets = a.nets }) p in
    let second : record { packages = b.packages; nets = a.nets } ≡ b = ap (λ (nets : List Net). record { packages = b.packages; nets = nets }) q in
    first ∙ second

pub same_lists : (p : ProjectData) (a b : Nets) → IsNetListOf p a → IsNetListOf p b → a ≡ b
same_lists p a b f g = both_parts a b (f.packages ∙ sym g.packages) (same_nets _ a.nets b.nets f.nets g.nets)
