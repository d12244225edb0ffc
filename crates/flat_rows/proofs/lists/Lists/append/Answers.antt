use Rattle.std.proofs.Common.{◌≡◌, ◌++◌, List, length, ap, ap₂, ◌∙◌, arith, sym}
use Rattle.std.specs.Option.{option_to_list}
use Rattle.std.proofs.lemmas.List.{map-append}
use Rattle.flat_rows.specs.declared.rows.FlatRow.{FlatRow}
use Rattle.flat_rows.specs.declared.rows.NewConductor.{NewConductor}
use Rattle.flat_rows.specs.steps.Lists.{bare_row}
use Rattle.flat_rows.proofs.KeyedLemmas.{keyed_behind}
use Rattle.flat_rows.proofs.RowLemmas.{rows_length}
use Rattle.flat_rows.proofs.lists.Lists.append.Goals as goal

pub returns : goal.returns
returns c = λ cs ds are more.
    let old = c.args.self.now in
    let first = c.len-first.result in
    let long : length old.rows.items ≡ length cs = ap length are.rows ∙ rows_length cs in
    let at : first ≡ length cs = omega (arith, c.len-first.ensures, long) in
    record {
      rows = c.in_ok-append.ensures.items ∙ ap₂ (λ (xs ys : List FlatRow). xs ++ ys) are.rows more.rows ∙ sym (map-append bare_row cs ds);
      global_names = keyed_behind (λ (c : NewConductor). c.global_names) old.global_names.items _ c.args.more.global_names.items cs ds first at are.global_names more.global_names c.in_ok-put_behind.ensures;
      drawn_names = keyed_behind (λ (c : NewConductor). c.drawn_names) old.drawn_names.items _ c.args.more.drawn_names.items cs ds first at are.drawn_names more.drawn_names c.in_ok-put_behind-2.ensures;
      members = keyed_behind (λ (c : NewConductor). option_to_list c.member) old.members.items _ c.args.more.members.items cs ds first at are.members more.members c.in_ok-put_behind-3.ensures;
      downs = keyed_behind (λ (c : NewConductor). option_to_list c.leads_down) old.downs.items _ c.args.more.downs.items cs ds first at are.downs more.downs c.in_ok-put_behind-4.ensures;
      ups = keyed_behind (λ (c : NewConductor). option_to_list c.leads_up) old.ups.items _ c.args.more.ups.items cs ds first at are.ups more.ups c.in_ok-put_behind-5.ensures;
    }
