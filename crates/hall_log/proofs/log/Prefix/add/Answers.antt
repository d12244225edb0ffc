use Rattle.std.proofs.Common.{sym, ◌∙◌, ap, subst}
use Rattle.edit_entries.specs.Entries.{EntryIsInRange}
use Rattle.hall_log.specs.Histories.{MayFollow}
use Rattle.hall_log.proofs.Adding.{adds_moves}
use Rattle.hall_log.proofs.log.Prefix.add.Goals as goal

pub compare_exchange-found-requires : goal.compare_exchange-found-requires
compare_exchange-found-requires g c =
    let h = c.args.log_length.now.head_is in
    let offer = c.plain-offer.ensures in
    let pen = c.no_pen-pen.ensures in
    let may : MayFollow c.self.inside.seen.log c.args.entry.now = rw c.self.view_is c.requires.accepted in (
      ap (λ w. w.tracked) h,
      c.self.invariant.1 ∙ sym (ap (λ w. w.book) h),
      pen.0 ∙ (c.self.invariant.1 ∙ sym (ap (λ w. w.book) h)),
      offer.0,
      rw (ap (λ w. w.key) h, pen.1, offer.1, offer.3) (adds_moves c.self.inside.seen.log c.args.entry.now c.self.inside.entries (sym c.self.invariant.0) may (subst EntryIsInRange c.entry.view_is c.entry.invariant)),
    )
