use Rattle.std.proofs.Common.{◌≡◌, ℕ, ◌<◌, List, [], ◌∷◌, Some, length, ap, subst, arith, ◌∙◌}
use Rattle.std.specs.Prelude.{All, slice_index, slice_index_or, slice_set}
use Rattle.std.specs.Vec.Iter.{into_iter_items}
use Rattle.std.proofs.lemmas.List.{get_or_default, length-set}
use Rattle.std.proofs.lemmas.List.Elements.{All-get_or, All-head, All-tail}
use Rattle.geda_model.specs.declared.text.Block.{Block}
use Rattle.net_list.specs.declared.package.Package.{Package}
use Rattle.flat_rows.specs.Keyed.{Keyed}
use Rattle.net_names.specs.steps.PackageRows.{bare_package, with_text, with_texts}
use Rattle.net_names.proofs.packages.put_texts.Goals as goal

pub loop-text-preserved : goal.loop-text-preserved
loop-text-preserved c =
    let attribute = c.args.attribute in
    let ranks = c.args.ranks.now in
    let packages = c.loop-text.packages.items in
    let rank = slice_index ranks c.in-Some.place in
    let left = into_iter_items c.next.new.self in
    let t : Keyed Block = (c.in-Some.text, c.in-Some.place) in
    let taken : into_iter_items c.loop-text.text-iterator ≡ t ∷ left = c.in-Some.ensures.steps.0 in
    let inside = subst (λ (ts : List (Keyed Block)). All (λ k. k.1 < length ranks) ts) taken c.loop-text.invariant.places in
    let there : c.in-Some.place < length ranks = All-head (λ (k : Keyed Block). k.1 < length ranks) t left inside in
    let old = c.args.packages.now.items in
    let below : rank < length old = All-get_or (λ (r : ℕ). r < length old) ranks c.in-Some.place 0 there c.requires.ranks in
    let here : rank < length packages = omega (arith, below, c.loop-text.invariant.len) in
    let known : c.put_text.new.known ≡ with_text attribute (slice_index_or packages rank (bare_package [])) (Some c.in-Some.text) =
    c.put_text.ensures
    ∙ ap (λ (p : Package). with_text attribute p (Some c.in-Some.text)) (c.index_mut.ensures.value ∙ get_or_default packages rank c.index_mut.result.now (bare_package []) here) in
    let rest =
    subst (λ (ts : List (Keyed Block)). with_texts attribute ranks packages ts ≡ with_texts attribute ranks c.args.packages.now.items c.args.texts.items)
    taken c.loop-text.invariant.rest in
    record {
      len = length-set packages rank c.put_text.new.known ∙ c.loop-text.invariant.len;
      places = All-tail (λ (k : Keyed Block). k.1 < length ranks) t left inside;
      rest = ap (λ (p : Package). with_texts attribute ranks (slice_set packages rank p) left) known ∙ rest;
    }
