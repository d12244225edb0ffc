use Rattle.std.proofs.Common.{◌≡◌, ◌∙◌, false, is_err, sym}
use Rattle.net_flood.proofs.Outcomes.{ok_holds}
use Rattle.group_runs.proofs.GoneLemmas.{sound_on_err, sound_on_ok}
use Rattle.group_runs.proofs.runs.apply_to.Goals as goal

pub returns-then-is_err-clause-sound : goal.returns-then-is_err-clause-sound
returns-then-is_err-clause-sound c =
    sound_on_err c.args.rows.now.entries c.invalidate_coming.new.rows.entries c.args.leaving.now c.args.coming.now c.requires.sound
    (λ s a b. c.invalidate_coming.ensures.others s b ∙ c.invalidate_left.ensures.others s a ∙ c.run-done.ensures.others s a b)
    (λ s m. c.invalidate_coming.ensures.stays s (c.invalidate_left.ensures.gone s m)) c.invalidate_coming.ensures.gone

pub returns-else-is_err-clause-sound : goal.returns-else-is_err-clause-sound
returns-else-is_err-clause-sound c =
    let ok : is_err c.run-done.result ≡ false = sym c.is_err.ensures.value ∙ c.if-is_err.false in
    sound_on_ok c.args.rows.now.entries c.run-done.new.rows.entries c.args.leaving.now c.args.coming.now c.requires.sound c.run-done.ensures.others
    c.requires.leaving_kept c.requires.coming_kept (ok_holds c.run-done.result ok c.run-done.ensures.kept)
