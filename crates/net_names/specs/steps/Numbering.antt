-- Steps of the code; no public clause cites them.
-- The names that look like those of nets without names, and numbers that skip them.
use Rattle.std.specs.Prelude.{◌≡◌, ℕ, ◌+◌, ◌-◌, ◌/◌, ◌%◌, ◌^◌, ◌<◌, ◌≤◌, ◌==◌, not, if◌then◌else◌, Bool, true, false, List, [], ◌∷◌, ◌++◌, length, filter}
use Rattle.std.specs.List.{fold, list_any, range_with_len, starts_with}
use Rattle.std.specs.Fmt.{decimal}
use Rattle.std.specs.BTreeSet.{insert_key}
use Rattle.net_list.specs.declared.nets.Net.{Net}
use Rattle.net_list.specs.declared.nets.NetSort.{NetSort}
use Rattle.net_names.specs.declared.net_classes.ClassBody.{ClassBody}
use Rattle.net_names.specs.steps.Classes.{net_with}
use Rattle.geda_defs.specs.Order.{by_bytes, is_equal}

-- names in order, with one more if it begins with a prefix
abbrev pub with_taken : List ℕ → List (List ℕ) → List ℕ → List (List ℕ)
with_taken prefix taken name =
    if starts_with ◌==◌ name prefix then insert_key by_bytes taken name else taken

-- those of some names that begin with a prefix, in order
abbrev pub taken_names : List ℕ → List (List ℕ) → List (List ℕ)
taken_names prefix names = fold (with_taken prefix) [] names

-- the text of a number is one of the names that are taken
abbrev pub is_taken : List ℕ → List (List ℕ) → ℕ → Bool
is_taken prefix taken n = list_any (is_equal by_bytes (prefix ++ decimal n)) taken

-- the numbers from one on, below a stop, whose texts are not taken
abbrev pub free_below : List ℕ → List (List ℕ) → ℕ → ℕ → List ℕ
free_below prefix taken n stop =
    filter (λ m. not (is_taken prefix taken m)) (range_with_len n (stop - n))

-- of numbers from one on, those of 64 bits, the two take the same ones
abbrev pub TakeSame : List ℕ → List (List ℕ) → List (List ℕ) → ℕ → Type 0
TakeSame prefix old new from =
    (m : ℕ) → from ≤ m → m < 2 ^ 64 → is_taken prefix new m ≡ is_taken prefix old m

-- all numbers from one on to another are taken, that one left out
abbrev pub AllTaken : List ℕ → List (List ℕ) → ℕ → ℕ → Type 0
AllTaken prefix taken from given =
    (m : ℕ) → from ≤ m → m < given → is_taken prefix taken m ≡ true

-- the number is the first from one on that is not taken; the names that are taken lose those that
-- were met
pub record IsNextFree (prefix : List ℕ) (old new : List (List ℕ)) (from given : ℕ)
    : Type 0 where
  pub above : from ≤ given
  pub skipped : AllTaken prefix old from given
  pub free : is_taken prefix old given ≡ false
  pub same : TakeSame prefix old new given
  pub fewer : given + length new ≤ from + length old

-- a prefix and all digits of a number but the last
abbrev pub stem_of : List ℕ → ℕ → List ℕ
stem_of prefix n = if n / 10 == 0 then prefix else prefix ++ decimal (n / 10)

-- the number is not 0, and the text is its stem, unless it ends in 0
pub record IsStemBefore (prefix : List ℕ) (n : ℕ) (text : List ℕ) : Type 0 where
  pub from_one : 0 < n
  pub same : 0 < n % 10 → text ≡ stem_of prefix n

-- the nets of bodies under their numbers
abbrev pub numbered_bodies : List ℕ → NetSort → List ℕ → List ClassBody → List Net
numbered_bodies prefix sort (n ∷ ns) (b ∷ bs) =
    net_with (prefix ++ decimal n) sort b ∷ numbered_bodies prefix sort ns bs
numbered_bodies prefix sort numbers bodies = []

-- nets grow by those of bodies, numbered from 1 on, at any stop that leaves enough numbers
abbrev pub AreNumbered :
    List ℕ → NetSort → List (List ℕ) → List ClassBody → List Net → List Net → Type 0
AreNumbered prefix sort taken bodies old new =
    (stop : ℕ) → length taken + length bodies < stop
    → new ≡ old ++ numbered_bodies prefix sort (free_below prefix taken 1 stop) bodies

-- nets while bodies are numbered: those that are left take free numbers from the next one on, which
-- so many names may take, and come to the same nets as all bodies behind the first nets
pub record GoesOn (prefix : List ℕ) (sort : NetSort) (taken : List (List ℕ)) (more next : ℕ)
    (first nets : List Net) (all left : List ClassBody) : Type 0 where
  pub room : next + more + length left ≤ 1 + length taken + length all
  pub rest : (stop : ℕ) → length taken + length all < stop
      → nets ++ numbered_bodies prefix sort (free_below prefix taken next stop) left
      ≡ first ++ numbered_bodies prefix sort (free_below prefix taken 1 stop) all
