use Rattle.std.proofs.Common.{◌≡◌, ◌<◌, ◌+◌, ◌∷◌, ◌++◌, [], ℕ, List, length, get_or, map, take, ap, subst, sym, ◌∙◌, arith}
use Rattle.hierarchy.specs.declared.instances.Instance.{Instance}
use Rattle.hierarchy.specs.Ways.{WayData}
use Rattle.hierarchy.specs.Instances.{instance_of, instance_with, parent_of}
use Rattle.hierarchy.specs.steps.Parents.{IsReady, parent_in}
use Rattle.hierarchy.proofs.TableLemmas.{map_take_more}
use Rattle.hierarchy.proofs.ParentLemmas.{here_at, parent_next, ready_next}
use Rattle.hierarchy.proofs.instances.instances_at.Goals as goal

pub loop-place-preserved : goal.loop-place-preserved
loop-place-preserved c =
    let ws = c.args.ways.now in
    let k = c.loop-place.place in
    let v : WayData = c.index-ways-place.result in
    let read : v ≡ get_or ws k v = c.index-ways-place.is in
    let within : k < length ws = omega arith in
    let here = here_at ws k v within read in
    let ready = c.loop-place.invariant.1 in
    let parent : c.parent_in-parent.result ≡ parent_of ws v =
    c.parent_in-parent.ensures ∙ ap (λ (places : List ℕ). parent_in places v) c.as_slice.ensures.value
    ∙ parent_next ws k v within here c.loop-place.entered.items c.requires.once read ready in
    let made : c.in_ok-instance_at.field-0 ≡ instance_of c.args.sheets.now ws v = c.in_ok-instance_at.ensures ∙ ap (instance_with c.args.sheets.now v) parent in
    let entered : c.enter.new.entered.items ≡ take (length v.steps) c.loop-place.entered.items ++ k ∷ [] = c.in_ok-enter.ensures in (
      c.in_ok-push.ensures.items ∙ ap (λ (is : List Instance). is ++ c.in_ok-instance_at.field-0 ∷ []) c.loop-place.invariant.0
          ∙ ap (λ (x : Instance). map (instance_of c.args.sheets.now ws) (take k ws) ++ x ∷ []) made
          ∙ sym (map_take_more (instance_of c.args.sheets.now ws) ws k v within read),
      subst (IsReady ws (k + 1)) (sym entered) (ready_next ws k v within here c.loop-place.entered.items read ready),
    )
