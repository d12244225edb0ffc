-- Steps of the code; no public clause cites them.
-- Cards by a map of the pins.
use Rattle.std.specs.Prelude.{ℕ, List, [], ◌∷◌, ◌++◌}
use Rattle.std.specs.Fmt.{decimal}
use Rattle.std.specs.List.{flat_map, range_with_len}
use Rattle.std.specs.Option.{unwrap_or}
use Rattle.printed_texts.specs.PrintedTexts.{flat}
use Rattle.net_list.specs.declared.package.Package.{Package}
use Rattle.spice_out.specs.Cards.{card_name}
use Rattle.spice_out.specs.SpiceText.{node_text, value_of}
use Rattle.spice_out.specs.steps.FirstPins.{FirstPins, firsts_at}

-- the card of a package with n pins
abbrev pub card_by : FirstPins → Package → ℕ → List ℕ
card_by firsts p n =
    card_name p.refdes
    ++ flat_map (λ k. 32 ∷ node_text (firsts_at firsts (decimal k))) (range_with_len 1 n)
    ++ 32 ∷ flat (unwrap_or (value_of p) [])
