-- What the second of two tests says.
use Rattle.std.proofs.Common.{◌↔◌, ◌⊎◌, IsTrue, Bool, true, false, inl, inr, refl}

pub or_else : (Q P : Type 0) (r : Bool) → (IsTrue false ↔ Q) → (IsTrue r ↔ P) → IsTrue r ↔ (Q ⊎ P)
or_else Q P r never h = (λ t. inr (h.0 t), λ s. elim s [ inl q ↦ absurd (let e = never.1 q in cc) | inr p ↦ h.1 p ])

pub and_then : (A P : Type 0) (r : Bool) → (IsTrue true ↔ A) → (IsTrue r ↔ P) → IsTrue r ↔ (A × P)
and_then A P r always h = (λ t. (always.0 refl, h.0 t), λ s. h.1 s.1)
