-- A start and a count determine the run, its groups and its nets, and so the text up to the calls.
use Rattle.std.proofs.Common.{◌≡◌, ◌<◌, ◌+◌, ◌-◌, ◌^◌, ◌==◌, ℕ, zero, suc, min, List, [], ◌∷◌, ◌++◌, true, false, Option, None, Some, get_or, length, sym, ap, subst, ◌∙◌, codes, arith}
use Rattle.std.specs.Prelude.{slice_index}
use Rattle.std.specs.List.{count_by}
use Rattle.std.specs.FinMap.{entries}
use Rattle.std.specs.Fmt.{decimal}
use Rattle.std.proofs.lemmas.List.{ext_get_or}
use Rattle.geda_defs.specs.Classes.{AreClasses}
use Rattle.geda_defs.specs.Lines.{ended}
use Rattle.geda_geom.specs.declared.conductor.Key.{Key}
use Rattle.project_model.specs.Items.{Item}
use Rattle.project_model.specs.Projects.{ProjectData}
use Rattle.sheet_groups.specs.Conductors.{SheetConductor, sheet_conductors}
use Rattle.sheet_groups.specs.Groups.{AreGroups, group_rows}
use Rattle.board_core.specs.GroupSizes.{IsGroupSize}
use Rattle.board_core.specs.Bounds.{IsBound, Leaving, SizesSum, coming_count, leaving}
use Rattle.net_list.specs.declared.nets.Nets.{Nets}
use Rattle.net_names.specs.NetLists.{IsNetListOf}
use Rattle.net_names.proofs.Uniqueness.{same_lists}
use Rattle.gaf_work.specs.Draws.{drawn}
use Rattle.gaf_work.specs.DrawnSteps.{step}
use Rattle.work_run.specs.Runs.{AddsBound, IsRun, IsStep, PutsIn, RunData, Steps}
use Rattle.work_run.specs.RunText.{AgreeButForCalls, WorkComesTo, is_first, named_number}

-- classes have one list of labels
same_labels : (R : ℕ → ℕ → Type 0) (count : ℕ) (xs ys : List ℕ) → AreClasses R count xs → AreClasses R count ys → xs ≡ ys
same_labels R count xs ys p q =
    ext_get_or 0 xs ys (p.len ∙ sym q.len) (λ i h.
    let inside : i < count = omega (arith, p.len) in
    omega (arith, p.least i (get_or ys i 0) inside (q.chain i inside), q.least i (get_or xs i 0) inside (p.chain i inside)))

-- groups have one list of rows
same_groups : (cs : List SheetConductor) (x y : List (Key × Key)) → AreGroups cs x → AreGroups cs y → x ≡ y
same_groups cs x y a b = a.are_rows ∙ ap (group_rows cs cs) (same_labels _ _ a.labels b.labels a.are_labels b.are_labels) ∙ sym b.are_rows

-- a group has one size
same_size : (cs : List SheetConductor) (place m n : ℕ) → IsGroupSize cs place m → IsGroupSize cs place n → m ≡ n
same_size cs place m n a b =
    a.counted ∙ ap (λ labels. count_by (λ label. label == slice_index labels place) labels) (same_labels _ _ a.labels b.labels a.are_labels b.are_labels) ∙ sym b.counted

-- the sizes have one sum
same_sizes : (kept : List SheetConductor) (cs : List Leaving) (m n : ℕ) → SizesSum kept cs m → SizesSum kept cs n → m ≡ n
same_sizes kept [] m n a b = a ∙ sym b
same_sizes kept ((c, false) ∷ cs) m n a b = same_sizes (kept ++ c ∷ []) cs m n a b
same_sizes kept ((c, true) ∷ cs) m n (size, rest, is, more, sum) (other, later, also, much, total) =
    let sizes = same_size _ (length kept) size other is also in
    let rests = same_sizes kept cs rest later more much in
    omega (arith, sum, total, sizes, rests)

-- a change has one bound, and adds it
same_sum : (p : ProjectData) (items : List Item) (old m n : ℕ) → AddsBound p items old m → AddsBound p items old n → m ≡ n
same_sum p items old m n a b = a.sum ∙ ap (λ bound. min (old + bound) (2 ^ 64 - 1)) (same_bound a.bound b.bound a.is_bound b.is_bound) ∙ sym b.sum
  where
    same_bound : (x y : ℕ) → IsBound p items x → IsBound p items y → x ≡ y
    same_bound x y f g =
        f.total ∙ ap (λ sizes. min (sizes + coming_count p items) (2 ^ 64 - 1)) (same_sizes [] (leaving p items) f.sizes g.sizes f.left g.left) ∙ sym g.total

same_data : (a b : RunData) → a.state ≡ b.state → a.project ≡ b.project → a.bound ≡ b.bound → a ≡ b
same_data a b states projects bounds = λ i. record { state = states i; project = projects i; bound = bounds i }

-- a step leads to one run
same_step : (old a b : RunData) → IsStep old a → IsStep old b → a ≡ b
same_step old a b x y =
    let both = by (step old.project (drawn old.state)) x.change y.change in
    same_data a b (x.state ∙ sym y.state) both.0 both.1
  where
    by : (change : Option (List Item)) → PutsIn change old a → PutsIn change old b → (a.project ≡ b.project) × (a.bound ≡ b.bound)
    by None p q = (p.0 ∙ sym q.0, p.1 ∙ sym q.1)
    by (Some items) p q = (p.0 ∙ sym q.0, same_sum old.project items old.bound a.bound b.bound p.1 q.1)

same_steps : (count : ℕ) (old a b : RunData) → Steps count old a → Steps count old b → a ≡ b
same_steps zero old a b x y = x ∙ sym y
same_steps (suc n) old a b (before, steps, is) (other, others, also) =
    same_step other a b (subst (λ run. IsStep run a) (same_steps n old before other steps others) is) also

-- so the steps from a start do
one_run : (start count : ℕ) (a b : RunData) → IsRun start count a → IsRun start count b → a ≡ b
one_run start count a b x y = same_steps count y.opened a b (subst (λ run. Steps count run a) opened x.steps) y.steps
  where
    opened : x.opened ≡ y.opened
    opened =
        let f = x.is_opened in
        let g = y.is_opened in
        same_data x.opened y.opened (f.state ∙ sym g.state) (f.project ∙ sym g.project) (same_sum _ _ 0 x.opened.bound y.opened.bound f.bound g.bound)

-- the lines before the last one
front_of : ℕ → ℕ → RunData → List (Key × Key) → Nets → List ℕ
front_of start count run groups nets =
    ended (codes "work " ++ decimal start ++ 32 ∷ decimal count)
    ++ named_number (codes "live") (length (entries run.project.objects))
    ++ named_number (codes "conductors") (length (sheet_conductors run.project))
    ++ named_number (codes "groups") (count_by is_first groups)
    ++ named_number (codes "nets") (length nets.nets)
    ++ named_number (codes "bound") run.bound

-- one text, but for its calls
pub one_text : (start count : ℕ) (one other : List ℕ) → WorkComesTo start count one → WorkComesTo start count other → AgreeButForCalls one other
unfolding front_of
one_text start count one other a b =
    let run = one_run start count a.run b.run a.is_run b.is_run in
    let groups = same_groups (sheet_conductors a.run.project) a.groups b.groups a.are_groups
    (subst (λ (r : RunData). AreGroups (sheet_conductors r.project) b.groups) (sym run) b.are_groups) in
    let nets = same_lists a.run.project a.nets b.nets a.is_net_list (subst (λ (r : RunData). IsNetListOf r.project b.nets) (sym run) b.is_net_list) in
    record {
      front = front_of start count a.run a.groups a.nets;
      calls = a.board.asked;
      other_calls = b.board.asked;
      one_is = a.told;
      other_is = b.told ∙ (λ i. front_of start count (sym run i) (sym groups i) (sym nets i) ++ named_number (codes "calls") b.board.asked);
    }
