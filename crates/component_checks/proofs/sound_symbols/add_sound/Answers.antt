use Rattle.component_checks.proofs.SoundLemmas.{sound_more}
use Rattle.component_checks.proofs.sound_symbols.add_sound.Goals as goal

pub returns-in_ok-insert : goal.returns-in_ok-insert
returns-in_ok-insert c = λ p sound are.
    sound_more p c.args.component.now.basename c.args.values.now.slot c.in-Some.key c.args.sound.now c.insert.new.self c.in-Some.ensures c.in_ok-insert.ensures.updates sound are
