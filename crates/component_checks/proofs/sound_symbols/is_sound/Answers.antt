use Rattle.std.proofs.Common.{◌≡◌, true}
use Rattle.text_tallies.specs.steps.KeySteps.{is_seen}
use Rattle.component_checks.proofs.SoundLemmas.{sound_at}
use Rattle.component_checks.proofs.sound_symbols.is_sound.Goals as goal

pub returns-then-asks_nothing : goal.returns-then-asks_nothing
returns-then-asks_nothing c = λ p are yes. absurd (let h = yes in cc)

pub returns-in-None : goal.returns-in-None
returns-in-None c = λ p are yes. absurd (let h = yes in cc)

pub returns-in-Some : goal.returns-in-Some
returns-in-Some c = λ p are yes.
    let key = c.in-Some.key in
    let seen : is_seen c.args.sound.now key ≡ true = let y = yes in let h = c.contains.ensures in cc in
    sound_at p c.args.component.now.basename c.args.values.now.slot key c.in-Some.ensures (are key seen)
