-- What contracts see of a keeper (own).
use Rattle.std.specs.Prelude.{ℕ, refl}
use Rattle.std.specs.Coded.{Coded, code_by, coded×, coded_ℕ}
use Rattle.sqlite.specs.Held.{Held, held_code}

-- its connection, and how often a call failed
pub record KeeperData (S : Type 0) : Type 0 where
  pub connection : Held S
  pub faults : ℕ

-- keepers have codes where their stores have
abbrev pub keeper_code : {S : Type 0} → Coded S → Coded (KeeperData S)
keeper_code {S} store =
    code_by (Held S × ℕ) (coded× (held_code store) coded_ℕ) (λ k. (k.connection, k.faults))
    (λ p. record { connection = p.0; faults = p.1 }) (λ _. refl)
