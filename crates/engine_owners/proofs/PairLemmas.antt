-- What one owner does, as the other sees it.
use Rattle.std.proofs.Common.{◌≡◌, ◌∙◌, ◌+◌, ◌-◌, ◌^◌, ◌≤◌, ◌==◌, ◌∷◌, [], inl, inr, ℕ, zero, suc, List, Bool, true, false, refl, sym, ap, subst, arith, length, take, nat_lt, nat_le, if◌then◌else◌}
use Rattle.std.proofs.lemmas.Bool.{and_parts, le-leb}
use Rattle.engine_core.specs.Calls.{Elapses, put_txn}
use Rattle.engine_core.specs.Worlds.{TxnData, World, acted, happened, has_room, is_done, is_others, owned, put_at, with_row}
use Rattle.engine_core.specs.declared.txns.Act.{Act}
use Rattle.engine_core.specs.declared.txns.Act.TheVariants as acts
use Rattle.engine_core.specs.declared.txns.Event.TheVariants as events
use Rattle.engine_board.specs.Holding.{IsHolding, IsInDoubt, IsLate}
use Rattle.engine_board.specs.Openings.{OpensBoard}
use Rattle.engine_board.specs.declared.hold.Hold.{Hold}
use Rattle.engine_board.proofs.HoldingLemmas.{done_under, doubts, elapses_keeps, false_true}
use Rattle.engine_owners.specs.Pairs.{FindsAll, HasFound, IsSeen, SeeOneStore, seen_as}

room_of : (fence : ℕ) (w other : World) → SeeOneStore w other → is_done fence w ≡ true → has_room other ≡ true
room_of fence w other one done = ap (λ r. nat_lt r (2 ^ 64 - 1)) (sym one.revision) ∙ (and_parts (w.fence == fence) (has_room w) done).1

not_both : (w other : World) → SeeOneStore w other → w.ours ≡ true → other.ours ≡ false
not_both w other one ours = go other.ours refl
  where
    go : (b : Bool) → other.ours ≡ b → b ≡ false
    go true e = absurd (one.apart ours e)
    go false e = refl

-- the owner's key is put by the one
take_seen : (w other : World) → SeeOneStore w other → has_room other ≡ true → SeeOneStore (owned true w) (happened events.Taken other)
take_seen w other one room = rw room (record {
  fence = ap (λ r. r + 1) one.revision;
  rows = one.rows;
  revision = ap (λ r. r + 1) one.revision;
  apart = λ e f. false_true false refl f;
})

take_found : (count : ℕ) (w other : World) → other.ours ≡ false → has_room other ≡ true → other.base ≤ count → (happened events.Taken other).base ≤ count
take_found count w other others room base = rw (room, others) base

others_may : (serial : ℕ) (w other : World) → SeeOneStore w other → other.ours ≡ false → has_room other ≡ true → other.base ≤ serial → serial ≤ length w.rows → is_others serial other ≡ true
others_may serial w other one others room base below =
    let first : nat_le other.base serial ≡ true = le-leb other.base serial base in
    let second : nat_le serial (length other.rows) ≡ true = le-leb serial (length other.rows) (subst (λ rs. serial ≤ length rs) one.rows below) in
    rw (others, first, second, room) refl

-- a row is put by the one
put_seen : (serial : ℕ) (body : List ℕ) (w other : World) → SeeOneStore w other → is_others serial other ≡ true → SeeOneStore (with_row serial body w) (happened (events.Wrote serial body) other)
put_seen serial body w other one may = rw may (record {
  fence = one.fence;
  rows = ap (put_at serial body) one.rows;
  revision = ap (λ r. r + 1) one.revision;
  apart = one.apart;
})

put_found : (count serial : ℕ) (body : List ℕ) (other : World) → is_others serial other ≡ true → other.base ≤ count → (happened (events.Wrote serial body) other).base ≤ count
put_found count serial body other may base = rw may base

-- what may be done late, done where the one has the board
acted_seen : (fence : ℕ) (count : ℕ) (act : Act) (w other : World) → IsHolding fence true count w → w.ours ≡ true → is_done fence w ≡ true → IsInDoubt true count act → HasFound count w other → SeeOneStore w other
    → SeeOneStore (acted act w) (happened (seen_as act) other) × HasFound count (acted act w) (happened (seen_as act) other)
acted_seen fence count acts.Take w other holds ours done may found one =
    let others = not_both w other one ours in
    let room = room_of fence w other one done in
    (take_seen w other one room, λ e. take_found count w other others room (found ours))
acted_seen fence count (acts.Put serial body) w other holds ours done is found one =
    let others = not_both w other one ours in
    let room = room_of fence w other one done in
    let base : other.base ≤ serial = omega (arith, is, found ours) in
    let may = others_may serial w other one others room base (omega (arith, is, holds.rows)) in
    (put_seen serial body w other one may, λ e. put_found count serial body other may (found ours))

pub asked_seen : (fence : ℕ) (doubt : Bool) (count : ℕ) (t : TxnData) (w other : World) → IsHolding fence doubt count w → IsLate fence doubt count t → HasFound count w other → SeeOneStore w other → IsSeen count t w other
asked_seen fence doubt count t w other holds late found one =
    let all = both (is_done t.fence w) refl in
    record { one = all.0; found = all.1 }
  where
    wider : (d : Bool) → IsInDoubt d count t.act → IsInDoubt true count t.act
    wider true may = may
    wider false may = absurd may

    both : (b : Bool) → is_done t.fence w ≡ b → SeeOneStore (if b then acted t.act w else w) (if b then happened (seen_as t.act) other else other) × HasFound count (if b then acted t.act w else w) (if b then happened (seen_as t.act) other else other)
    both false e = (one, found)
    both true e = split late
      where
        split : IsLate fence doubt count t → SeeOneStore (acted t.act w) (happened (seen_as t.act) other) × HasFound count (acted t.act w) (happened (seen_as t.act) other)
        split (inl older) = absurd (omega (arith, older, holds.reached, done_under t.fence w e))
        split (inr p) = acted_seen fence count t.act w other (doubts fence doubt count w holds) (holds.own (done_under t.fence w e ∙ p.0)) (subst (λ f. is_done f w ≡ true) p.0 e) (wider doubt p.1) found one

pub sent_seen : (fence count : ℕ) (body : List ℕ) (w other : World) → IsHolding fence false count w → HasFound count w other → SeeOneStore w other → IsSeen (count + 1) (put_txn fence count body) w other
sent_seen fence count body w other holds found one =
    let seen = asked_seen fence true count (put_txn fence count body) w other (doubts fence false count w holds) (inr (refl, refl)) found one in
    record { one = seen.one; found = λ e. omega (arith, seen.found e) }

take_fewer : (m n : ℕ) (rows : List (List ℕ)) → m ≤ n → take m (take n rows) ≡ take m rows
take_fewer zero n rows below = refl
take_fewer (suc m) zero rows below = absurd (omega (arith, below))
take_fewer (suc m) (suc n) [] below = refl
take_fewer (suc m) (suc n) (r ∷ rows) below = ap (λ rs. r ∷ rs) (take_fewer m n rows (omega (arith, below)))

pub finds_all : (fence : ℕ) (doubt : Bool) (count : ℕ) (other there w v : World) (hold : Hold) → IsHolding fence doubt count other → Elapses other there → (opens : OpensBoard hold w v) → SeeOneStore opens.at there → FindsAll count hold other v
finds_all fence doubt count other there w v hold holds elapses opens one =
    let kept = elapses_keeps fence doubt count other there holds elapses in
    let all : count ≤ hold.count = omega (arith, kept.holding.rows, opens.count, ap length one.rows) in
    record {
      all = all;
      same = sym (take_fewer count hold.count v.rows all) ∙ ap (take count) opens.same ∙ ap (take count) one.rows ∙ kept.same;
    }

pub new_found : (w other : World) → SeeOneStore w other → other.base ≤ length other.rows → HasFound (length w.rows) w other
new_found w other one fits = λ e. omega (arith, fits, ap length one.rows)
