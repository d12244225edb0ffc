use Rattle.std.proofs.Common.{refl, sym, rules}
use Rattle.hall_core.proofs.door.read_from.Goals as goal

pub returns : goal.returns
returns g c =
    rw c.again-seen.ensures (
      c.if-not-begins.ensures.begins refl,
      (
        search rules,
        record {
          shown = c.deref-shown.result.now;
          shows = sym c.prefix-prefix.ensures;
          answer = (c.deref-shown.result, c.f.ensures, refl);
        },
      ),
    )
