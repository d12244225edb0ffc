-- Bytes before those that are told.
use Rattle.std.proofs.Common.{◌≡◌, ℕ, List, [], ◌++◌, ap, sym, refl, append_assoc, append-nil, Option, Some, None}
use Rattle.web_heads.specs.Links.{with_front, with_end}

pub front_none : (o : Option (List ℕ)) → with_front [] o ≡ o
front_none None = refl
front_none (Some x) = refl

pub front_more : (a b : List ℕ) (o : Option (List ℕ)) → with_front a (with_front b o) ≡ with_front (a ++ b) o
front_more a b None = refl
front_more a b (Some x) = ap Some (sym (append_assoc a b x))

pub end_none : (o : Option (List ℕ)) → with_end [] o ≡ o
end_none None = refl
end_none (Some x) = ap Some (append-nil x)

pub end_more : (a b : List ℕ) (o : Option (List ℕ)) → with_end b (with_end a o) ≡ with_end (a ++ b) o
end_more a b None = refl
end_more a b (Some x) = ap Some (append_assoc x a b)
