-- What becomes of a connection that a worker serves (own).
use Rattle.std.specs.Prelude.{◌≡◌, ◌⊎◌}
use Rattle.gates.specs.declared.served.Fate.{Fate}
use Rattle.gates.specs.declared.served.Fate.TheVariants as fates
use Rattle.web_heads.specs.declared.link.Part.{Part}
use Rattle.web_heads.specs.declared.link.Part.TheVariants as parts

-- a read gives a connection back to those that wait only where a message was to begin, of which no
-- byte was read
abbrev pub GoesBackBetween : Part → Fate → Fate → Type 0
GoesBackBetween part before after =
    after ≡ fates.Wait → (before ≡ fates.Wait) ⊎ (part ≡ parts.Message)
