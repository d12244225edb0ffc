-- The list text of a net list (own): a line a package and a line a net.
use Rattle.std.specs.Prelude.{ℕ, List, ◌∷◌, ◌++◌, Option, Some, None, length, map, codes}
use Rattle.std.specs.List.{flat_map}
use Rattle.std.specs.Fmt.{decimal}
use Rattle.geda_defs.specs.Lines.{spaced, ended}
use Rattle.printed_texts.specs.PrintedTexts.{flat, pin_words, word}
use Rattle.net_list.specs.declared.member.Member.{Member}
use Rattle.net_list.specs.declared.nets.Net.{Net}
use Rattle.net_list.specs.declared.package.Package.{Package}
use Rattle.net_list.specs.declared.nets.Nets.{Nets}

-- a value, or `-` for an absent one
abbrev pub field : Option (List ℕ) → List ℕ
field None = codes "-"
field (Some value) = flat value

-- the refdes, device, value and footprint of a package, parted by tabs
abbrev pub package_line : Package → List ℕ
package_line p =
    word p.refdes ++ 9 ∷ (field p.device ++ 9 ∷ (field p.value ++ 9 ∷ field p.footprint))

-- a member: refdes, `-`, pin number
abbrev pub member_text : Member → List ℕ
member_text m = pin_words m.refdes m.pin

-- the name of a net, a tab, and its members parted by one space
abbrev pub net_line : Net → List ℕ
net_line n = word n.name ++ 9 ∷ spaced (map member_text n.members)

-- the line of a package
abbrev pub package_text : Package → List ℕ
package_text p = ended (package_line p)

-- the line of a net
abbrev pub net_line_text : Net → List ℕ
net_line_text n = ended (net_line n)

-- the counts, each before its lines
abbrev pub list_text : Nets → List ℕ
list_text nets =
    ended (codes "parts " ++ decimal (length nets.packages)) ++ flat_map package_text nets.packages
    ++ (ended (codes "nets " ++ decimal (length nets.nets)) ++ flat_map net_line_text nets.nets)
