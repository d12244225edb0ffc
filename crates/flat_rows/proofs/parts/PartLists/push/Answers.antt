use Rattle.std.proofs.Common.{◌≡◌, ◌++◌, ◌∷◌, [], List, ℕ, length, ap, ◌∙◌, arith, sym}
use Rattle.std.specs.Option.{option_to_list}
use Rattle.std.proofs.lemmas.List.{length-map, map_push}
use Rattle.net_list.specs.declared.package.Package.{Package}
use Rattle.flat_rows.proofs.KeyedLemmas.{keyed_more}
use Rattle.flat_rows.proofs.parts.PartLists.push.Goals as goal

pub returns : goal.returns
returns c = λ parts are.
    let old = c.args.self.now in
    let p = c.args.part in
    let place = c.len-place.result in
    let long : length old.refdeses.items ≡ length parts = ap length are.refdeses ∙ length-map parts (λ (p : Package). p.refdes) in
    let at : place ≡ length parts = omega (arith, c.len-place.ensures, long) in
    record {
      refdeses = c.in_ok-push.ensures.items ∙ ap (λ (rs : List (List ℕ)). rs ++ p.refdes ∷ []) are.refdeses ∙ sym (map_push (λ (p : Package). p.refdes) parts p);
      devices = keyed_more (λ (p : Package). option_to_list p.device) old.devices.items _ parts p place at are.devices c.in_ok-put.ensures;
      values = keyed_more (λ (p : Package). option_to_list p.value) old.values.items _ parts p place at are.values c.in_ok-put-2.ensures;
      footprints = keyed_more (λ (p : Package). option_to_list p.footprint) old.footprints.items _ parts p place at are.footprints c.in_ok-put-3.ensures;
    }
