-- Steps of the code; no public clause cites them.
-- Pieces of a refdes that are lent, and the names of cards as a set.
use Rattle.std.specs.Prelude.{◌≡◌, ℕ, List, Option, Vec, map}
use Rattle.std.specs.Borrow.{Bor}
use Rattle.std.specs.BTreeSet.{BTreeSet, contains}
use Rattle.std.specs.Char.{to_ascii_uppercase}
use Rattle.std.specs.Cmp.Lexicographic.{slice_cmp}
use Rattle.std.specs.declared.alloc.Global.{Global}
use Rattle.std.specs.declared.cmp.Ordering.{Ordering}
use Rattle.std.specs.List.{list_any, slice_get}
use Rattle.std.specs.Option.{option_map}
use Rattle.std.specs.Ordering.{nat_cmp}
use Rattle.net_list.specs.declared.package.Package.{Package}
use Rattle.spice_out.specs.Faults.{is_card_named}

-- the pieces that are lent
abbrev pub seen : List (Bor (List ℕ)) → List (List ℕ)
seen lent = map (λ piece. piece.now) lent

-- the letter of a last piece
abbrev pub letter_in : List ℕ → Option ℕ
letter_in piece = option_map to_ascii_uppercase (slice_get piece 0)

-- names by their bytes
abbrev pub by_items : Vec ℕ Global → Vec ℕ Global → Ordering
by_items x y = slice_cmp nat_cmp x.items y.items

-- the set has the names of the cards of these packages, and no other
abbrev pub HasNames : List Package → BTreeSet (Vec ℕ Global) → Type 0
HasNames earlier names = (q : Vec ℕ Global)
    → contains by_items names q ≡ list_any (is_card_named q.items) earlier
