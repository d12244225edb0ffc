-- How grave it is that two kinds of pins meet in a net (own). A matrix is a lower triangle: each
-- kind has a row from unknown on to itself; c is correct, w a warning, e an error. The usual one:
--
--   | kind        | unknown in out io oc oe pas tp tri clk pwr unconnected |
--   |-------------|--------------------------------------------------------|
--   | unknown     | c                                                      |
--   | in          | c       c                                              |
--   | out         | c       c  e                                           |
--   | io          | c       c  w   c                                       |
--   | oc          | c       c  e   w  e                                    |
--   | oe          | c       c  e   w  c  e                                 |
--   | pas         | c       c  c   c  c  c  c                              |
--   | tp          | c       c  e   w  e  e  c   e                          |
--   | tri         | c       c  e   c  c  c  c   e  c                       |
--   | clk         | c       c  c   c  c  e  c   e  e   c                   |
--   | pwr         | c       c  e   w  e  e  c   e  e   e   c               |
--   | unconnected | e       e  e   e  e  e  e   e  e   e   e   e           |
use Rattle.std.specs.Prelude.{ℕ, Bool, true, false, ◌+◌, ◌*◌, ◌/◌, ◌==◌, max, min, if◌then◌else◌, List, [], ◌∷◌, ◌++◌, Option, Some, None, slice_index_or, codes}
use Rattle.std.specs.List.{filter_map}
use Rattle.attr_rules.specs.declared.kinds.PinKind.{PinKind}
use Rattle.attr_rules.specs.declared.kinds.PinKind.TheVariants as kinds
use Rattle.pin_matrix.specs.declared.level.Level.{Level}
use Rattle.pin_matrix.specs.declared.level.Level.TheVariants as levels

-- the kinds in matrix order
unfoldable pub all_kinds : List PinKind
all_kinds =
    kinds.Unknown ∷ kinds.In ∷ kinds.Out ∷ kinds.Io ∷ kinds.Oc ∷ kinds.Oe ∷ kinds.Pas ∷ kinds.Tp
    ∷ kinds.Tri ∷ kinds.Clk ∷ kinds.Pwr ∷ kinds.Unconnected ∷ []

-- the place of a kind in a matrix
abbrev pub kind_rank : PinKind → ℕ
kind_rank kinds.Unknown = 0
kind_rank kinds.In = 1
kind_rank kinds.Out = 2
kind_rank kinds.Io = 3
kind_rank kinds.Oc = 4
kind_rank kinds.Oe = 5
kind_rank kinds.Pas = 6
kind_rank kinds.Tp = 7
kind_rank kinds.Tri = 8
kind_rank kinds.Clk = 9
kind_rank kinds.Pwr = 10
kind_rank kinds.Unconnected = 11

-- the same kind
abbrev pub same_kind : PinKind → PinKind → Bool
same_kind a b = kind_rank a == kind_rank b

-- c is correct, w a warning, e an error
abbrev pub level_of : ℕ → Option Level
level_of letter =
    if letter == 99 then Some levels.Correct
    else if letter == 119 then Some levels.Warning
    else if letter == 101 then Some levels.Error
    else None

-- the rows of the usual matrix, one behind the other
unfoldable pub usual : List Level
usual = filter_map level_of (
    codes "c"
    ++ codes "cc"
    ++ codes "cce"
    ++ codes "ccwc"
    ++ codes "ccewe"
    ++ codes "ccewce"
    ++ codes "ccccccc"
    ++ codes "cceweece"
    ++ codes "cceccccec"
    ++ codes "ccccceceec"
    ++ codes "cceweeceeec"
    ++ codes "eeeeeeeeeeee")

-- the place of a pair of kinds, by their places, in the rows one behind the other
abbrev pub pair_place : ℕ → ℕ → ℕ
pair_place i j = max i j * (max i j + 1) / 2 + min i j

-- how grave it is that two kinds meet, in either order
abbrev pub entry : List Level → PinKind → PinKind → Level
entry rows a b = slice_index_or rows (pair_place (kind_rank a) (kind_rank b)) levels.Correct

-- no finding comes at this level
abbrev pub is_correct : Level → Bool
is_correct levels.Correct = true
is_correct levels.Warning = false
is_correct levels.Error = false
