-- The Tango text of a net list (own): a block of lines for each package and for each net that is no
-- unconnected pin.
use Rattle.std.specs.Prelude.{ℕ, List, [], ◌∷◌, ◌++◌, Option, Some, None, codes, map}
use Rattle.std.specs.List.{flat_map}
use Rattle.geda_defs.specs.Lines.{ended}
use Rattle.printed_texts.specs.PrintedTexts.{flat, word}
use Rattle.net_list.specs.declared.package.Package.{Package}
use Rattle.net_list.specs.declared.nets.Net.{Net}
use Rattle.net_list.specs.declared.nets.Nets.{Nets}
use Rattle.backends.specs.ListText.{member_text}
use Rattle.backends.specs.Joined.{joined_nets}

-- lines, each ended
abbrev pub ended_lines : List (List ℕ) → List ℕ
ended_lines texts = flat_map ended texts

-- a value, or `unknown` for an absent one
abbrev pub known : Option (List ℕ) → List ℕ
known None = codes "unknown"
known (Some value) = flat value

-- a package between brackets: refdes, footprint, device and value
abbrev pub package_block : Package → List ℕ
package_block p = ended_lines (codes "[" ∷ word p.refdes ∷ known p.footprint ∷ known p.device
    ∷ known p.value ∷ codes "]" ∷ [])

-- a net between parentheses: its name and its members
abbrev pub net_block : Net → List ℕ
net_block n = ended_lines (codes "(" ∷ word n.name ∷ []) ++ (ended_lines (map member_text n.members)
    ++ ended_lines (codes ")" ∷ []))

-- the packages, then the nets that join pins
abbrev pub tango_text : Nets → List ℕ
tango_text nets =
    flat_map package_block nets.packages ++ flat_map net_block (joined_nets nets.nets)
