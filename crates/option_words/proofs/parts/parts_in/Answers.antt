use Rattle.std.proofs.Common.{ℕ, Option, ap₂, ◌∙◌, List, codes}
use Rattle.option_words.specs.Words.{Parts}
use Rattle.clap.specs.Words.{found_of}
use Rattle.clap.proofs.WalkLemmas.{first_value-rows}
use Rattle.option_words.proofs.parts.parts_in.Goals as goal

abbrev parts_with : Option (List ℕ) → List (List ℕ) → Parts
parts_with v ws = record { value = v; words = ws }

pub returns : goal.returns
returns c =
    ap₂ (λ (v : Option (List ℕ)) (ws : List (List ℕ)). parts_with v ws) (c.get_str-value.ensures ∙ first_value-rows (found_of c.args.matches.now) (codes "value")) c.in_ok-words.ensures
