-- The change that gives numbers leaves the symbols.
use Rattle.std.proofs.Common.{◌≡◌, ℕ, List, [], ◌∷◌, All, Result, Err, refl, ap, ◌∙◌, arith}
use Rattle.std.proofs.lemmas.List.Elements.{All-tail}
use Rattle.std.specs.Result.{result_map_both}
use Rattle.project_files.specs.Measures.{symbols_text}
use Rattle.project_model.specs.Changes.{put, put_one}
use Rattle.project_model.specs.Items.{Item}
use Rattle.project_model.specs.Projects.{ProjectData}
use Rattle.refdes_renum.specs.Laws.{IsReplaced}
use Rattle.refdes_renum.specs.Renumbering.{renumbered}
use Rattle.refdes_renum.proofs.LawLemmas.{replaced}
use Rattle.renum_files.specs.declared.fault.RenumberFault.{RenumberFault}
use Rattle.renum_files.specs.declared.fault.RenumberFault.TheVariants as faults
use Rattle.renum_files.specs.RenumberedFiles.{File, GivesRenumbered, RenumberedData, counted}

-- an object that gets a new value
one_keeps : (p q : ProjectData) (item : Item) → IsReplaced p item → symbols_text (put_one q item.0 item.1) ≡ symbols_text q
one_keeps p q item is = ap (λ (i : Item). symbols_text (put_one q i.0 i.1)) is.is

all_keep : (p q : ProjectData) (items : List Item) → All (IsReplaced p) items → symbols_text (put q items) ≡ symbols_text q
all_keep p q [] all = refl
all_keep p q (item ∷ items) all =
    all_keep p (put_one q item.0 item.1) items (All-tail (IsReplaced p) item items all)
    ∙ one_keeps p q item (all 0 item (omega arith))

pub symbols_kept : (p : ProjectData) → symbols_text (put p (renumbered p)) ≡ symbols_text p
symbols_kept p = all_keep p p (renumbered p) (replaced p)

-- a fault of the files is one of the whole
pub fault_passed : (count : ℕ) (end : Result (List File) RenumberFault) (fault : RenumberFault) → GivesRenumbered (λ (files : List File). files) (Err fault) end
    → GivesRenumbered (λ (r : RenumberedData). r) (Err fault) (result_map_both (counted count) (λ (e : RenumberFault). e) end)
fault_passed count end faults.NoMemory is = tt
fault_passed count end faults.ProjectFull is = ap (result_map_both (counted count) (λ (e : RenumberFault). e)) is
