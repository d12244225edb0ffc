use Rattle.std.proofs.Common.{◌≡◌, ◌<◌, ℕ, length, sym, subst, ap, ◌∙◌}
use Rattle.std.specs.Prelude.{slice_index_or}
use Rattle.std.proofs.lemmas.List.{length-replicate}
use Rattle.net_names.specs.steps.Gathering.{empty_class, keyed_rows, label_at, with_global, with_row}
use Rattle.net_names.proofs.GatheringLemmas.{taken_length}
use Rattle.net_names.proofs.gathering.grown.Goals as goal

pub take_globals-requires-clause-labels : goal.take_globals-requires-clause-labels
take_globals-requires-clause-labels c = λ k d h.
    let labels = c.args.labels.now in
    let len : length c.take_rows.new.growing.items ≡ length c.args.rows.now =
    ap length c.take_rows.ensures ∙ taken_length (label_at labels) with_row c.in_ok-growing.growing.items (keyed_rows 0 c.args.rows.now) ∙ ap length c.in_ok-growing.ensures ∙ length-replicate (length c.args.rows.now) empty_class in
    subst (λ (n : ℕ). slice_index_or labels k d < n) (sym len) (c.requires.labels k d h)

pub take_drawns-requires-clause-labels : goal.take_drawns-requires-clause-labels
take_drawns-requires-clause-labels c = λ k d h.
    let labels = c.args.labels.now in
    let len : length c.take_globals.new.growing.items ≡ length c.args.rows.now =
    ap length c.take_globals.ensures ∙ taken_length (label_at labels) with_global c.take_rows.new.growing.items c.args.global_names.now
    ∙ ap length c.take_rows.ensures ∙ taken_length (label_at labels) with_row c.in_ok-growing.growing.items (keyed_rows 0 c.args.rows.now) ∙ ap length c.in_ok-growing.ensures ∙ length-replicate (length c.args.rows.now) empty_class in
    subst (λ (n : ℕ). slice_index_or labels k d < n) (sym len) (c.requires.labels k d h)
