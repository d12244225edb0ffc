use Rattle.std.proofs.Common.{◌≡◌, ◌++◌, ◌∷◌, [], length, ap, ◌∙◌, arith, sym}
use Rattle.std.specs.Option.{option_to_list}
use Rattle.std.proofs.lemmas.List.{append-nil, map_push}
use Rattle.flat_rows.specs.Rows.{named_conductor}
use Rattle.flat_rows.specs.declared.rows.NewConductor.{NewConductor}
use Rattle.flat_rows.specs.steps.Lists.{bare_row}
use Rattle.flat_rows.proofs.KeyedLemmas.{keyed_more}
use Rattle.flat_rows.proofs.RowLemmas.{rows_length}
use Rattle.flat_rows.proofs.lists.Lists.push_named.Goals as goal

pub returns : goal.returns
returns c = λ cs are.
    let old = c.args.self.now in
    let d = named_conductor c.args.row c.args.member c.args.names.now in
    let place = c.len-place.result in
    let long : length old.rows.items ≡ length cs = ap length are.rows ∙ rows_length cs in
    let at : place ≡ length cs = omega (arith, c.len-place.ensures, long) in
    record {
      rows = c.in_ok-push.ensures.items ∙ ap (λ rows. rows ++ bare_row d ∷ []) are.rows ∙ sym (map_push bare_row cs d);
      global_names = keyed_more (λ (c : NewConductor). c.global_names) old.global_names.items _ cs d place at are.global_names c.in_ok-put_copies.ensures;
      drawn_names = keyed_more (λ (c : NewConductor). c.drawn_names) old.drawn_names.items old.drawn_names.items cs d place at are.drawn_names (sym (append-nil old.drawn_names.items));
      members = keyed_more (λ (c : NewConductor). option_to_list c.member) old.members.items _ cs d place at are.members c.in_ok-put.ensures;
      downs = keyed_more (λ (c : NewConductor). option_to_list c.leads_down) old.downs.items old.downs.items cs d place at are.downs (sym (append-nil old.downs.items));
      ups = keyed_more (λ (c : NewConductor). option_to_list c.leads_up) old.ups.items old.ups.items cs d place at are.ups (sym (append-nil old.ups.items));
    }
