-- The labels of a component above: after one more label, and the sets of them after one more set.
use Rattle.std.proofs.Common.{◌≡◌, ◌||◌, ◌==◌, ◌+◌, ◌<◌, ℕ, Bool, true, false, cond, List, Option, None, Some, get_or, length, take, refl, ap, sym, subst, ◌∙◌}
use Rattle.std.specs.Prelude.{String, is_some}
use Rattle.std.specs.HashMap.{HashMap, Updates, get}
use Rattle.std.specs.HashSet.{HashSet, contains_text}
use Rattle.std.specs.List.{list_any}
use Rattle.std.specs.Str.{bytes_eq}
use Rattle.std.proofs.lemmas.Bool.{eq-eqb, eqb-true, false≢true}
use Rattle.std.proofs.lemmas.List.Elements.{All-more, All-weaker}
use Rattle.project_model.specs.Projects.{ProjectData}
use Rattle.hierarchy.specs.declared.instances.Instance.{Instance}
use Rattle.instance_objects.specs.Ports.{component_above, labels_of}
use Rattle.instance_objects.specs.steps.LabelSets.{AreLabelSets, AreTold, HasLabels, KeepsTold, TellPorts, has_text}
use Rattle.geda_defs.proofs.Bytes.{bytes_turned}

-- a text is the new one, or was there
pub added : (text label : List ℕ) (old new : Bool) → new ≡ cond (bytes_eq label text) true old → new ≡ (old || bytes_eq text label)
added text label old new e = e ∙ ap (λ b. cond b true old) (bytes_turned label text) ∙ by old (bytes_eq text label)
  where
    by : (a b : Bool) → cond b true a ≡ (a || b)
    by true true = refl
    by true false = refl
    by false true = refl
    by false false = refl

module _ {Y S T : Type 0} (p : ProjectData) where
  -- a set that is known tells the labels of its component
  pub told_known : (sets : HashMap ℕ (HashSet (String Y) S) T) (id : ℕ)
      → AreLabelSets p sets → is_some (get ◌==◌ sets id) ≡ true → AreTold p sets (Some id)
  told_known sets id are known text = by (get ◌==◌ sets id) refl
    where
      by : (found : Option (HashSet (String Y) S)) → get ◌==◌ sets id ≡ found → has_text found text ≡ list_any (bytes_eq text) (labels_of p (Some id))
      by None e = absurd (false≢true (sym (ap is_some e) ∙ known))
      by (Some set) e = are id set e text

  module _ (old new : HashMap ℕ (HashSet (String Y) S) T) (id : ℕ) (set : HashSet (String Y) S) (has : HasLabels (labels_of p (Some id)) set) (updates : Updates ◌==◌ old new id (Some set)) where
    -- so does one that was added
    pub told_added : AreTold p new (Some id)
    told_added text = rw (updates.0 id, eq-eqb id id refl) (has text)

    -- what was told before stays
    pub kept_added : KeepsTold p old new
    kept_added None told text = told text
    kept_added (Some q) told text = by (id == q) refl
      where
        by : (b : Bool) → (id == q) ≡ b → has_text (get ◌==◌ new q) text ≡ list_any (bytes_eq text) (labels_of p (Some q))
        by true e = rw (updates.0 q, e) (subst (λ k. contains_text set text ≡ list_any (bytes_eq text) (labels_of p (Some k))) (eqb-true id q e) (has text))
        by false e = rw (updates.0 q, e) (told text)

-- the ports of one more instance are told
pub tell_more : {Y S T : Type 0} (p : ProjectData) (old new : HashMap ℕ (HashSet (String Y) S) T) (is : List Instance) (k : ℕ) (i : Instance)
    → k < length is → i ≡ get_or is k i → KeepsTold p old new → AreTold p new (component_above i) → TellPorts p (take k is) old → TellPorts p (take (k + 1) is) new
tell_more p old new is k i lt at keeps told tells =
    let kept : TellPorts p (take k is) new = All-weaker (λ (j : Instance). AreTold p old (component_above j)) (λ (j : Instance). AreTold p new (component_above j)) (λ j. keeps (component_above j)) (take k is) tells in
    All-more (λ (j : Instance). AreTold p new (component_above j)) is k i lt kept (subst (λ (j : Instance). AreTold p new (component_above j)) at told)
