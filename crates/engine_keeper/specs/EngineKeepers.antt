-- What contracts see of a keeper on several machines (own).
use Rattle.std.specs.Prelude.{ℕ, Bool, refl}
use Rattle.std.specs.Coded.{Coded, code_by, coded×, coded_bool, coded_ℕ}
use Rattle.engine_board.specs.declared.hold.Hold.{Hold}

-- its store, what it knows of the board, and how often a call failed
pub record EngineKeeperData (E : Type 0) : Type 0 where
  pub engine : E
  pub hold : Hold
  pub faults : ℕ

-- keepers have codes where their stores have
abbrev pub engine_keeper_code : {E : Type 0} → Coded E → Coded (EngineKeeperData E)
engine_keeper_code {E} store =
    code_by (E × (ℕ × (ℕ × (Bool × (Bool × ℕ)))))
    (coded× store (coded× coded_ℕ (coded× coded_ℕ (coded× coded_bool (coded× coded_bool coded_ℕ)))))
    (λ k. (k.engine, (k.hold.fence, (k.hold.count, (k.hold.doubt, (k.hold.lost, k.faults))))))
    (λ p. record {
      engine = p.0;
      hold = record {
        fence = p.1.0;
        count = p.1.1.0;
        doubt = p.1.1.1.0;
        lost = p.1.1.1.1.0;
      };
      faults = p.1.1.1.1.1;
    })
    (λ _. refl)
