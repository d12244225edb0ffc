-- Kinds of pins: what they print, and how many members are of each.
use Rattle.std.proofs.Common.{◌≡◌, List, [], ◌∷◌, refl}
use Rattle.net_list.specs.declared.member.Member.{Member}
use Rattle.pin_matrix.specs.Matrices.{all_kinds}
use Rattle.attr_rules.specs.declared.kinds.PinKind.{PinKind}
use Rattle.attr_rules.specs.declared.kinds.PinKind.TheVariants as kinds
use Rattle.printed_texts.specs.PrintedTexts.{word}
use Rattle.drc_rules.specs.OnNets.{kind_word}
use Rattle.drc_rules.specs.steps.Counts.{kind_count, kind_counts}

-- a kind prints as it is
pub kind_again : (kind : PinKind) → word (kind_word kind) ≡ kind_word kind
kind_again kinds.Unknown = refl
kind_again kinds.In = refl
kind_again kinds.Out = refl
kind_again kinds.Io = refl
kind_again kinds.Oc = refl
kind_again kinds.Oe = refl
kind_again kinds.Pas = refl
kind_again kinds.Tp = refl
kind_again kinds.Tri = refl
kind_again kinds.Clk = refl
kind_again kinds.Pwr = refl
kind_again kinds.Unconnected = refl

-- the count of each kind
pub kinds_counted : (members : List Member) → kind_counts members
    ≡ kind_count members kinds.Unknown ∷ kind_count members kinds.In ∷ kind_count members kinds.Out
    ∷ kind_count members kinds.Io ∷ kind_count members kinds.Oc ∷ kind_count members kinds.Oe
    ∷ kind_count members kinds.Pas ∷ kind_count members kinds.Tp ∷ kind_count members kinds.Tri
    ∷ kind_count members kinds.Clk ∷ kind_count members kinds.Pwr ∷ kind_count members kinds.Unconnected ∷ []
unfolding all_kinds
kinds_counted members = refl
