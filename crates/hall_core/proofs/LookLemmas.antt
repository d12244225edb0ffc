-- What is answered on what is published is answered on its board.
use Rattle.std.proofs.Common.{ℕ, List, Option, Some, None, subst}
use Rattle.std.specs.Option.{IfSome}
use Rattle.edit_entries.specs.Entries.{EntryData}
use Rattle.board_core.specs.Boards.{BoardData}
use Rattle.hall_core.specs.BoardSteps.{IsAnswered, IsAnsweredFrom, IsShownFrom}

module _ {S A : Type 0} (list : S → List EntryData) (least : ℕ) (h : List EntryData) (P : A → S → Type 0) (Q : A → BoardData → Type 0)
    (on_board : (answer : A) (shown : S) → P answer shown → IsAnswered (list shown) (Q answer)) where
  answered_from : (answer : Option A) → IsShownFrom list least h P answer → IsAnsweredFrom least h Q answer
  answered_from None few = few
  answered_from (Some answer) is =
      (is.0, subst (λ (entries : List EntryData). IsAnswered entries (Q answer)) is.1.shows (on_board answer is.1.shown is.1.answer))

  pub look_answered : (look : Option (ℕ × Option A)) → IfSome look (λ l. IsShownFrom list least h P l.1) → IfSome look (λ l. IsAnsweredFrom least h Q l.1)
  look_answered None is = is
  look_answered (Some l) is = answered_from l.1 is
